use Rattle.pybuf_index.proofs.LaneLemmas.{counts, mixing, none}
use Rattle.pybuf_index.proofs.laws.each_lane_counts.Goals as goal

pub returns : goal.returns
returns c = record { lanes = counts; steps = mixing; none = none }

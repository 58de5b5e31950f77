use Rattle.pybuf_letters.proofs.CutLaws.{cut_from_left, cut_from_right}
use Rattle.pybuf_letters.proofs.laws.cuts_take_the_nearest_runs.Goals as goal

pub returns : goal.returns
returns c = record { left = cut_from_left; right = cut_from_right }

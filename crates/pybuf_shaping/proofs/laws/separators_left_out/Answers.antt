use Rattle.pybuf_shaping.proofs.ReadLemmas.{left_out}
use Rattle.pybuf_shaping.proofs.laws.separators_left_out.Goals as goal

pub returns : goal.returns
returns c = left_out

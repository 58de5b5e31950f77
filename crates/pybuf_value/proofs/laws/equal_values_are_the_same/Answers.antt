use Rattle.pybuf_value.proofs.SameLemmas.{same}
use Rattle.pybuf_value.proofs.laws.equal_values_are_the_same.Goals as goal

pub returns : goal.returns
returns c = same

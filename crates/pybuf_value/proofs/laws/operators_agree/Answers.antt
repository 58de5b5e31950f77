use Rattle.pybuf_value.proofs.OrderLemmas.{laws_of_operators}
use Rattle.pybuf_value.proofs.laws.operators_agree.Goals as goal

pub returns : goal.returns
returns c = laws_of_operators

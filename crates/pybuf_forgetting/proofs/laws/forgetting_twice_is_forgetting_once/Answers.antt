use Rattle.pybuf_forgetting.proofs.Basics.{twice_is_once}
use Rattle.pybuf_forgetting.proofs.laws.forgetting_twice_is_forgetting_once.Goals as goal

pub returns : goal.returns
returns c = twice_is_once

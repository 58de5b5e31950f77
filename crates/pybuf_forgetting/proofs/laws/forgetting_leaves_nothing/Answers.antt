use Rattle.pybuf_forgetting.proofs.Basics.{leaves_nothing}
use Rattle.pybuf_forgetting.proofs.laws.forgetting_leaves_nothing.Goals as goal

pub returns : goal.returns
returns c = leaves_nothing

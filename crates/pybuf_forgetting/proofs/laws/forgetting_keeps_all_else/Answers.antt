use Rattle.pybuf_forgetting.proofs.Basics.{all_else}
use Rattle.pybuf_forgetting.proofs.laws.forgetting_keeps_all_else.Goals as goal

pub returns : goal.returns
returns c = all_else

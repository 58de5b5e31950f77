use Rattle.pybuf_state.proofs.Keeping.{emptying}
use Rattle.pybuf_state.proofs.laws.emptying_keeps.Goals as goal

pub returns : goal.returns
returns c = emptying

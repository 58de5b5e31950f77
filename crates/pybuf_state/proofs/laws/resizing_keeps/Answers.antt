use Rattle.pybuf_state.proofs.Keeping.{resizing}
use Rattle.pybuf_state.proofs.laws.resizing_keeps.Goals as goal

pub returns : goal.returns
returns c = resizing

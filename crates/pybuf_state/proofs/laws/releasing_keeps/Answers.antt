use Rattle.pybuf_state.proofs.Keeping.{releasing}
use Rattle.pybuf_state.proofs.laws.releasing_keeps.Goals as goal

pub returns : goal.returns
returns c = releasing

use Rattle.pybuf_state.proofs.Keeping.{writing}
use Rattle.pybuf_state.proofs.laws.writing_keeps.Goals as goal

pub returns : goal.returns
returns c = writing

use Rattle.pybuf_state.proofs.Keeping.{reading}
use Rattle.pybuf_state.proofs.laws.reading_keeps.Goals as goal

pub returns : goal.returns
returns c = reading

use Rattle.pybuf_state.proofs.Keeping.{whole_sound}
use Rattle.pybuf_state.proofs.laws.whole_layouts_are_sound.Goals as goal

pub returns : goal.returns
returns c = whole_sound

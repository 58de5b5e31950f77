use Rattle.pybuf_state.proofs.Keeping.{live_sound}
use Rattle.pybuf_state.proofs.laws.live_layouts_are_sound.Goals as goal

pub returns : goal.returns
returns c = live_sound

use Rattle.pybuf_state.proofs.Keeping.{part_sound}
use Rattle.pybuf_state.proofs.laws.part_layouts_are_sound.Goals as goal

pub returns : goal.returns
returns c = part_sound

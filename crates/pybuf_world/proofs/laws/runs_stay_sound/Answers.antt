use Rattle.pybuf_world.specs.World.{empty_world}
use Rattle.pybuf_world.proofs.Sound.{empty_is_sound, stays_sound}
use Rattle.pybuf_world.proofs.laws.runs_stay_sound.Goals as goal

pub returns : goal.returns
returns c = λ commands. stays_sound c.exporter_laws.ensures empty_world commands empty_is_sound

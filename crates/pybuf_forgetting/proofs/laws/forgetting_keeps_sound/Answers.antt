use Rattle.pybuf_forgetting.proofs.Basics.{sound_so, apart_so}
use Rattle.pybuf_forgetting.proofs.laws.forgetting_keeps_sound.Goals as goal

pub returns-clause-sound : goal.returns-clause-sound
returns-clause-sound c = sound_so c.whole_layouts_are_sound.ensures

pub returns-clause-apart : goal.returns-clause-apart
returns-clause-apart c = apart_so

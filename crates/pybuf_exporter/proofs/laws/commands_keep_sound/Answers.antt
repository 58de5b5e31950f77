use Rattle.pybuf_exporter.proofs.Every.{sound_stays}
use Rattle.pybuf_exporter.proofs.laws.commands_keep_sound.Goals as goal

pub returns : goal.returns
returns c = sound_stays c.effects_are_safe.ensures c.reading_keeps.ensures

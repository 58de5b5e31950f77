use Rattle.pybuf_exporter.proofs.Every.{steps_keep}
use Rattle.pybuf_exporter.proofs.laws.steps_keep_sound.Goals as goal

pub returns : goal.returns
returns c = steps_keep c.effects_are_safe.ensures c.reading_keeps.ensures

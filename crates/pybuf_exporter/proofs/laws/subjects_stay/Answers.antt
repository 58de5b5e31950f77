use Rattle.pybuf_exporter.proofs.Every.{subjects_stay_so}
use Rattle.pybuf_exporter.proofs.laws.subjects_stay.Goals as goal

pub returns : goal.returns
returns c = subjects_stay_so c.effects_are_safe.ensures c.reading_keeps.ensures

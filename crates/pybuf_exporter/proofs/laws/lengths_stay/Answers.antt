use Rattle.pybuf_exporter.proofs.Every.{lengths_stay_so}
use Rattle.pybuf_exporter.proofs.laws.lengths_stay.Goals as goal

pub returns : goal.returns
returns c = lengths_stay_so c.effects_are_safe.ensures c.reading_keeps.ensures

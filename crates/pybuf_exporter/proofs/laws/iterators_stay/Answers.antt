use Rattle.pybuf_exporter.proofs.Every.{iterators_stay_so}
use Rattle.pybuf_exporter.proofs.laws.iterators_stay.Goals as goal

pub returns : goal.returns
returns c = iterators_stay_so c.effects_are_safe.ensures c.reading_keeps.ensures

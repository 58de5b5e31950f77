use Rattle.pybuf_exporter.proofs.Every.{others_leave_so}
use Rattle.pybuf_exporter.proofs.laws.others_leave_iterators.Goals as goal

pub returns : goal.returns
returns c = others_leave_so c.effects_are_safe.ensures c.reading_keeps.ensures

use Rattle.pybuf_exporter.proofs.Faults.{never_replied}
use Rattle.pybuf_exporter.proofs.laws.struct_error_is_never_replied.Goals as goal

pub returns : goal.returns
returns c = never_replied c.effects_are_safe.ensures c.reading_keeps.ensures

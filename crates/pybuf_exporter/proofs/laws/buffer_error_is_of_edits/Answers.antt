use Rattle.pybuf_exporter.proofs.Faults.{edits_alone}
use Rattle.pybuf_exporter.proofs.laws.buffer_error_is_of_edits.Goals as goal

pub returns : goal.returns
returns c = edits_alone c.effects_are_safe.ensures c.reading_keeps.ensures

use Rattle.std.proofs.Common.{ap, ◌∙◌}
use Rattle.pybuf_command.specs.Kinds.{holds_readonly}
use Rattle.pybuf_exporter.specs.Stored.{StoredExporter}
use Rattle.pybuf_exporter.proofs.Resizing.{whole_taken}
use Rattle.pybuf_exporter.proofs.exporter.ExporterState.take_bytes.Goals as goal

pub invariant_of-self : goal.invariant_of-self
invariant_of-self c =
    whole_taken c.resizing_keeps.ensures c.self.inside.parts c.take_by.new.parts c.take_by.result
    (ap (λ (s : StoredExporter). holds_readonly s.exporter.kind) c.self.view_is ∙ c.requires) c.self.invariant c.take_by.ensures.exports c.take_by.ensures.answer

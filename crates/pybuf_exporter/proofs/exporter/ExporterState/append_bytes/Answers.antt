use Rattle.std.specs.Prelude.{◌++◌}
use Rattle.std.proofs.Common.{ap, ◌∙◌}
use Rattle.pybuf_command.specs.Kinds.{holds_readonly}
use Rattle.pybuf_exporter.specs.Stored.{StoredExporter}
use Rattle.pybuf_exporter.proofs.Resizing.{whole_after}
use Rattle.pybuf_exporter.proofs.exporter.ExporterState.append_bytes.Goals as goal

pub invariant_of-self : goal.invariant_of-self
invariant_of-self c =
    whole_after c.resizing_keeps.ensures c.self.inside.parts c.append_by.new.parts (c.self.inside.parts.bytes.items ++ c.args.bytes.now) c.append_by.result
    (ap (λ (s : StoredExporter). holds_readonly s.exporter.kind) c.self.view_is ∙ c.requires) c.self.invariant c.append_by.ensures.exports c.append_by.ensures.answer

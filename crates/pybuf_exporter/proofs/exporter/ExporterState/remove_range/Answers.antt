use Rattle.std.specs.Prelude.{[]}
use Rattle.pybuf_slice.specs.Edits.{replaced_range}
use Rattle.std.proofs.Common.{ap, ◌∙◌}
use Rattle.pybuf_command.specs.Kinds.{holds_readonly}
use Rattle.pybuf_exporter.specs.Stored.{StoredExporter}
use Rattle.pybuf_exporter.proofs.Resizing.{whole_at_once}
use Rattle.pybuf_exporter.proofs.exporter.ExporterState.remove_range.Goals as goal

pub invariant_of-self : goal.invariant_of-self
invariant_of-self c =
    whole_at_once c.resizing_keeps.ensures c.self.inside.parts c.remove_by.new.parts (replaced_range c.self.inside.parts.bytes.items c.args.start c.args.end []) c.remove_by.result
    (ap (λ (s : StoredExporter). holds_readonly s.exporter.kind) c.self.view_is ∙ c.requires.writable) c.self.invariant c.remove_by.ensures.exports c.remove_by.ensures.answer

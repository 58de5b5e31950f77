use Rattle.pybuf_slice.specs.Edits.{replaced_range}
use Rattle.std.proofs.Common.{ap, ◌∙◌}
use Rattle.pybuf_command.specs.Kinds.{holds_readonly}
use Rattle.pybuf_exporter.specs.Stored.{StoredExporter}
use Rattle.pybuf_exporter.proofs.Resizing.{whole_after}
use Rattle.pybuf_exporter.proofs.exporter.ExporterState.replace_range.Goals as goal

pub invariant_of-self : goal.invariant_of-self
invariant_of-self c =
    whole_after c.resizing_keeps.ensures c.self.inside.parts c.replace_by.new.parts (replaced_range c.self.inside.parts.bytes.items c.args.start c.args.end c.args.bytes.now) c.replace_by.result
    (ap (λ (s : StoredExporter). holds_readonly s.exporter.kind) c.self.view_is ∙ c.requires.writable) c.self.invariant c.replace_by.ensures.exports c.replace_by.ensures.answer

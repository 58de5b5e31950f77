use Rattle.std.proofs.Common.{sym, subst}
use Rattle.pybuf_state.specs.Fresh.{IsCopyOf}
use Rattle.pybuf_state.specs.Sound.{IsSoundExporter}
use Rattle.pybuf_state.specs.Answers.{exporter_of}
use Rattle.pybuf_exporter.specs.Stored.{StoredExporter}
use Rattle.pybuf_exporter.proofs.exporter.ExporterState.exporter_of_copy.Goals as goal

pub invariant_of-result : goal.invariant_of-result
invariant_of-result c =
    let copy = subst (λ (s : StoredExporter). IsCopyOf s.exporter c.args.subject c.args.copy) (sym c.self.view_is) c.requires in
    record {
      counted = c.in_ok-parts.ensures.counted;
      sound = subst IsSoundExporter (sym c.in_ok-parts.ensures.value)
          ((c.copies_are_faithful.ensures (exporter_of c.self.inside.parts) c.args.subject c.args.copy c.self.invariant.sound copy).0);
    }

use Rattle.std.proofs.Common.{sym, subst}
use Rattle.pybuf_state.specs.Laws.{IsSoundLayout}
use Rattle.pybuf_state.specs.Answers.{exporter_of}
use Rattle.pybuf_exporter.proofs.Lent.{sound_after}
use Rattle.pybuf_exporter.specs.Stored.{StoredExporter}
use Rattle.pybuf_exporter.proofs.exporter.ExporterState.add_view.Goals as goal

pub invariant_of-self : goal.invariant_of-self
invariant_of-self c =
    let e = exporter_of c.self.inside.parts in
    let l = c.of_descriptor.result in
    let asked = subst (λ (x : StoredExporter). IsSoundLayout x.exporter l) (sym c.self.view_is) (subst (IsSoundLayout c.args.self.now.exporter) (sym c.of_descriptor.ensures) c.requires.sound) in
    record {
      counted = c.add_view.ensures.counted;
      sound = sound_after e (exporter_of c.add_view.new.self) l c.add_view.result c.add_view.ensures.answer (c.new_views_are_sound.ensures e l c.self.invariant.sound asked) c.self.invariant.sound;
    }

use Rattle.std.proofs.Common.{◌<◌, List, length, set, slice_get, ap, sym, subst, ◌∙◌}
use Rattle.pybuf_state.specs.Exporter.{Exporter}
use Rattle.pybuf_exporter.specs.Stored.{StoredExporter}
use Rattle.pybuf_world.proofs.WithoutRoom.{inside, found, put_at}
use Rattle.pybuf_world.proofs.listing.ExporterList.replace.Goals as goal

pub returns-clause-value : goal.returns-clause-value
returns-clause-value c =
    let ss = c.self.inside.exporters.items in
    let below = subst (λ (es : List Exporter). c.args.number < length es) (sym c.self.view_is) c.requires in
    ap (λ (es : List Exporter). slice_get es c.args.number) (sym c.self.view_is)
    ∙ found ss c.args.number c.replace.result _ (inside ss c.args.number below) (c.replace.ensures.value ∙ c.index_mut.ensures.value)

pub returns-clause-items : goal.returns-clause-items
returns-clause-items c =
    put_at c.self.inside.exporters.items c.args.number c.replace.new.dest
    ∙ ap (λ (es : List Exporter). set es c.args.number c.replace.new.dest.exporter) c.self.view_is
    ∙ ap (λ (s : StoredExporter). set c.args.self.now c.args.number s.exporter) c.replace.ensures.after

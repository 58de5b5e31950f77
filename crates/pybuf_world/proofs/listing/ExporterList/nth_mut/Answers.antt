use Rattle.std.proofs.Common.{◌<◌, List, length, set, slice_get, ap, sym, subst, refl, ◌∙◌}
use Rattle.pybuf_state.specs.Exporter.{Exporter}
use Rattle.pybuf_world.proofs.WithoutRoom.{inside, found, put_at}
use Rattle.pybuf_world.proofs.listing.ExporterList.nth_mut.Goals as goal

pub returns : goal.returns
returns c =
    let ss = c.self.inside.exporters.items in
    let below = subst (λ (es : List Exporter). c.args.number < length es) (sym c.self.view_is) c.requires in (
      (refl, λ w. put_at ss c.args.number w ∙ ap (λ (es : List Exporter). set es c.args.number w.exporter) c.self.view_is),
      record {
        writes_back = tt;
        value =
            ap (λ (es : List Exporter). slice_get es c.args.number) (sym c.self.view_is)
            ∙ found ss c.args.number c.index_mut.result.now _ (inside ss c.args.number below) c.index_mut.ensures.value;
      },
    )

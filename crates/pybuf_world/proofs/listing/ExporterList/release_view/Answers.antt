use Rattle.std.proofs.Common.{◌<◌, List, length, sym, subst}
use Rattle.pybuf_state.specs.Exporter.{Exporter}
use Rattle.pybuf_world.proofs.WithoutRoom.{inside, found, released_listed}
use Rattle.pybuf_world.proofs.listing.ExporterList.release_view.Goals as goal

pub returns-clause-exact : goal.returns-clause-exact
returns-clause-exact c =
    let ss = c.self.inside.exporters.items in
    let holder = c.index_mut-holder.result.now in
    let below = subst (λ (es : List Exporter). c.args.number < length es) (sym c.self.view_is) c.requires in
    released_listed ss c.args.self.now c.args.number c.args.view holder c.release_view.new.self c.release_view.result c.self.view_is (found ss c.args.number holder _ (inside ss c.args.number below) c.index_mut-holder.ensures.value) c.release_view.ensures.exact

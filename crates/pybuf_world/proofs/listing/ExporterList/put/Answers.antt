use Rattle.std.proofs.Common.{List, set, ap, ◌∙◌}
use Rattle.pybuf_state.specs.Exporter.{Exporter}
use Rattle.pybuf_world.proofs.WithoutRoom.{put_at}
use Rattle.pybuf_world.proofs.listing.ExporterList.put.Goals as goal

pub returns : goal.returns
returns c = put_at c.self.inside.exporters.items c.args.number c.args.exporter ∙ ap (λ (es : List Exporter). set es c.args.number c.args.exporter.exporter) c.self.view_is

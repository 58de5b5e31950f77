-- Exporters in whose views no two items share a byte.
use Rattle.std.specs.List.{All}
use Rattle.pybuf_desc.specs.Apart.{HasItemsApart}
use Rattle.pybuf_state.specs.Exporter.{Exporter, View}

-- no two items of a view share a byte, whether the view was released or not
pub record IsSpaced (e : Exporter) : Type 0 where
  pub views : All (λ (v : View). HasItemsApart v.layout) e.views

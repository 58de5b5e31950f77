use Rattle.pybuf_exporter.proofs.ColumnItems.{same_items}
use Rattle.pybuf_exporter.proofs.laws.orders_hold_the_same_items.Goals as goal

pub returns : goal.returns
returns c = same_items c.contents_hold_the_items.ensures c.contents_are_whole.ensures c.columns_stay_inside.ensures c.live_layouts_are_sound.ensures

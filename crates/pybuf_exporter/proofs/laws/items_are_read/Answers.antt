use Rattle.pybuf_exporter.proofs.Every.{each_item_is_read}
use Rattle.pybuf_exporter.proofs.laws.items_are_read.Goals as goal

pub returns : goal.returns
returns c = each_item_is_read c.live_layouts_are_sound.ensures c.bytes_of_the_size_are_read.ensures

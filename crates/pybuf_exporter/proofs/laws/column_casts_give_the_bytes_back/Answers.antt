use Rattle.pybuf_exporter.proofs.ColumnBytes.{bytes_given_back}
use Rattle.pybuf_exporter.proofs.laws.column_casts_give_the_bytes_back.Goals as goal

pub returns : goal.returns
returns c = bytes_given_back c.no_items_are_no_columns.ensures c.live_layouts_are_sound.ensures c.commands_keep_sound.ensures c.column_casts_hold_the_bytes.ensures

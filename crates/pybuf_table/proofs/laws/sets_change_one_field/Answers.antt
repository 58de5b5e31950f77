use Rattle.pybuf_table.proofs.Setting.{one_field_set}
use Rattle.pybuf_table.proofs.laws.sets_change_one_field.Goals as goal

pub returns : goal.returns
returns c = one_field_set c.fields_lie_in_order.ensures c.packing_fills_the_format.ensures c.keys_name_items.ensures c.live_layouts_are_sound.ensures

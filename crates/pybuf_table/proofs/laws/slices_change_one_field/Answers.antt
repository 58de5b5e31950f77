use Rattle.pybuf_table.proofs.Slicing.{slices_set}
use Rattle.pybuf_table.proofs.laws.slices_change_one_field.Goals as goal

pub returns : goal.returns
returns c = slices_set c.fields_lie_in_order.ensures c.steps_assign_by_value.ensures

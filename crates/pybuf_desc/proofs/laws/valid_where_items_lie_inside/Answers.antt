use Rattle.pybuf_desc.proofs.DescribedLayouts.{valid_where_inside}
use Rattle.pybuf_desc.proofs.laws.valid_where_items_lie_inside.Goals as goal

pub returns : goal.returns
returns c = valid_where_inside

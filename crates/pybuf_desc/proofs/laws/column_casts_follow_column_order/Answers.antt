use Rattle.pybuf_desc.proofs.ColumnCasts.{column_order}
use Rattle.pybuf_desc.proofs.laws.column_casts_follow_column_order.Goals as goal

pub returns : goal.returns
returns c = column_order

use Rattle.pybuf_desc.proofs.ColumnCasts.{column_casts_counted}
use Rattle.pybuf_desc.proofs.laws.column_casts_have_their_shape.Goals as goal

pub returns : goal.returns
returns c = column_casts_counted

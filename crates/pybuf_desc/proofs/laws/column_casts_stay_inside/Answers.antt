use Rattle.pybuf_desc.proofs.ColumnApart.{column_casts_inside}
use Rattle.pybuf_desc.proofs.laws.column_casts_stay_inside.Goals as goal

pub returns : goal.returns
returns c = column_casts_inside

use Rattle.pybuf_desc.proofs.ColumnApart.{column_casts_apart}
use Rattle.pybuf_desc.proofs.laws.column_casts_lie_apart.Goals as goal

pub returns : goal.returns
returns c = column_casts_apart

use Rattle.pybuf_desc.proofs.ColumnCasts.{column_casts_told}
use Rattle.pybuf_desc.proofs.laws.column_casts_are_f_contiguous.Goals as goal

pub returns : goal.returns
returns c = column_casts_told

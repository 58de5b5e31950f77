use Rattle.pybuf_desc.proofs.ColumnRanges.{column_ranges_inside}
use Rattle.pybuf_desc.proofs.laws.column_ranges_stay_inside.Goals as goal

pub returns : goal.returns
returns c = column_ranges_inside

use Rattle.pybuf_desc.proofs.ColumnRanges.{column_ranges_content}
use Rattle.pybuf_desc.proofs.laws.column_ranges_have_the_content.Goals as goal

pub returns : goal.returns
returns c = column_ranges_content

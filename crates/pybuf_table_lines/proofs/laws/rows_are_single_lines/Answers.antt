use Rattle.pybuf_table_lines.proofs.RowLaws.{rows_single}
use Rattle.pybuf_table_lines.proofs.laws.rows_are_single_lines.Goals as goal

pub returns : goal.returns
returns c = rows_single c.replies_are_single_lines.ensures.handles

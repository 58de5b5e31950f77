use Rattle.pybuf_table.proofs.Numbered.{rows_numbered}
use Rattle.pybuf_table.proofs.laws.rows_are_records.Goals as goal

pub returns : goal.returns
returns c = rows_numbered

use Rattle.pybuf_desc.proofs.ColumnItems.{no_columns}
use Rattle.pybuf_desc.proofs.laws.no_items_are_no_columns.Goals as goal

pub returns : goal.returns
returns c = no_columns

use Rattle.pybuf_desc.proofs.ColumnItems.{columns_inside}
use Rattle.pybuf_desc.proofs.laws.columns_stay_inside.Goals as goal

pub returns : goal.returns
returns c = columns_inside

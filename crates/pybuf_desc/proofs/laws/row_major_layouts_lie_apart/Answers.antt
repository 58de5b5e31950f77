use Rattle.pybuf_desc.proofs.ItemsApart.{row_major_apart}
use Rattle.pybuf_desc.proofs.laws.row_major_layouts_lie_apart.Goals as goal

pub returns : goal.returns
returns c = row_major_apart

use Rattle.pybuf_desc.proofs.ItemsApart.{whole_apart}
use Rattle.pybuf_desc.proofs.laws.whole_layouts_lie_apart.Goals as goal

pub returns : goal.returns
returns c = whole_apart

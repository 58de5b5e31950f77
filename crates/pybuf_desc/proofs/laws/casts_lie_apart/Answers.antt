use Rattle.pybuf_desc.proofs.ItemsApart.{casts_apart}
use Rattle.pybuf_desc.proofs.laws.casts_lie_apart.Goals as goal

pub returns : goal.returns
returns c = casts_apart

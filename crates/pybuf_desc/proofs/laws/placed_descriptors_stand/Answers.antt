use Rattle.pybuf_desc.proofs.DescribedLayouts.{stands_at}
use Rattle.pybuf_desc.proofs.laws.placed_descriptors_stand.Goals as goal

pub returns : goal.returns
returns c = stands_at

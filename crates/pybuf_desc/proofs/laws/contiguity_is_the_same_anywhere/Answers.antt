use Rattle.pybuf_desc.proofs.DescribedLayouts.{same_anywhere}
use Rattle.pybuf_desc.proofs.laws.contiguity_is_the_same_anywhere.Goals as goal

pub returns : goal.returns
returns c = same_anywhere

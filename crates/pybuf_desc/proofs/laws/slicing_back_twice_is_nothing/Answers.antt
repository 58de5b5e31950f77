use Rattle.pybuf_desc.proofs.SliceLayouts.{back_and_back}
use Rattle.pybuf_desc.proofs.laws.slicing_back_twice_is_nothing.Goals as goal

pub returns : goal.returns
returns c = back_and_back

use Rattle.pybuf_desc.proofs.SliceLayouts.{slices_inside}
use Rattle.pybuf_desc.proofs.laws.slices_stay_inside.Goals as goal

pub returns : goal.returns
returns c = slices_inside

use Rattle.pybuf_desc.proofs.DescribedLayouts.{one_view}
use Rattle.pybuf_desc.proofs.laws.descriptors_stand_for_one_view.Goals as goal

pub returns : goal.returns
returns c = one_view

use Rattle.pybuf_desc.proofs.DescribedLayouts.{position_is}
use Rattle.pybuf_desc.proofs.laws.positions_are_places.Goals as goal

pub returns : goal.returns
returns c = position_is

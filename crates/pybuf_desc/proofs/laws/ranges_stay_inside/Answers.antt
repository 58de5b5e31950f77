use Rattle.pybuf_desc.proofs.RangeLaws.{ranges_inside}
use Rattle.pybuf_desc.proofs.laws.ranges_stay_inside.Goals as goal

pub returns : goal.returns
returns c = ranges_inside

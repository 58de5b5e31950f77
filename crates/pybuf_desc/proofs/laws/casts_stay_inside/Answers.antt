use Rattle.pybuf_desc.proofs.ItemRuns.{casts_inside}
use Rattle.pybuf_desc.proofs.laws.casts_stay_inside.Goals as goal

pub returns : goal.returns
returns c = casts_inside

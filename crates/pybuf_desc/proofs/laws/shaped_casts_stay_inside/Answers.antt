use Rattle.pybuf_desc.proofs.ItemRuns.{shaped_inside}
use Rattle.pybuf_desc.proofs.laws.shaped_casts_stay_inside.Goals as goal

pub returns : goal.returns
returns c = shaped_inside

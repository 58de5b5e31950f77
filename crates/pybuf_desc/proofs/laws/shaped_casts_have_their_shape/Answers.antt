use Rattle.pybuf_desc.proofs.ItemRuns.{shaped_shape}
use Rattle.pybuf_desc.proofs.laws.shaped_casts_have_their_shape.Goals as goal

pub returns : goal.returns
returns c = shaped_shape

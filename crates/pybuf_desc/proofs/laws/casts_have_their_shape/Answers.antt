use Rattle.pybuf_desc.proofs.ItemRuns.{casts_shape}
use Rattle.pybuf_desc.proofs.laws.casts_have_their_shape.Goals as goal

pub returns : goal.returns
returns c = casts_shape

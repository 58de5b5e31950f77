use Rattle.pybuf_desc.proofs.ItemRuns.{one_dimension}
use Rattle.pybuf_desc.proofs.laws.flat_casts_have_one_dimension.Goals as goal

pub returns : goal.returns
returns c = one_dimension

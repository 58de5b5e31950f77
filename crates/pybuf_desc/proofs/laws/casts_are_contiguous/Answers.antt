use Rattle.pybuf_desc.proofs.ItemRuns.{casts_contiguous}
use Rattle.pybuf_desc.proofs.laws.casts_are_contiguous.Goals as goal

pub returns : goal.returns
returns c = casts_contiguous

use Rattle.pybuf_desc.proofs.ItemRuns.{casts_share}
use Rattle.pybuf_desc.proofs.laws.casts_share_their_bytes.Goals as goal

pub returns : goal.returns
returns c = casts_share

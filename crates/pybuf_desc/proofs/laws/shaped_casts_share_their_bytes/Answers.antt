use Rattle.pybuf_desc.proofs.ItemRuns.{shaped_share}
use Rattle.pybuf_desc.proofs.laws.shaped_casts_share_their_bytes.Goals as goal

pub returns : goal.returns
returns c = shaped_share

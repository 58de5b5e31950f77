use Rattle.pybuf_lanes.proofs.Blocks.{values_in_pairs}
use Rattle.pybuf_lanes.proofs.pairs.byte_lanes.Goals as goal

pub returns : goal.returns
returns c = values_in_pairs c.args.front c.args.back c.fits-front.0 c.fits-back.0 c.requires.front c.requires.back

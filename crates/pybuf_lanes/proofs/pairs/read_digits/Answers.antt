use Rattle.std.proofs.Common.{arith}
use Rattle.pybuf_lanes.proofs.Blocks.{one_block_more}
use Rattle.pybuf_lanes.proofs.pairs.read_digits.Goals as goal

pub loop-room-preserved : goal.loop-room-preserved
loop-room-preserved c = one_block_more _ _ _ _ c.loop-room.invariant (omega arith) c.in-Some.ensures.bytes c.in-Some.ensures.digits (omega arith)

use Rattle.std.proofs.Common.{arith}
use Rattle.pybuf_lanes.proofs.Steps.{one_chunk_gathered, one_gathered, all_gathered}
use Rattle.pybuf_lanes.proofs.gathers.gather_thirds.Goals as goal

pub loop-at-preserved : goal.loop-at-preserved
loop-at-preserved c = one_chunk_gathered 3 _ _ _ _ _ c.loop-at.invariant c.thirds_at.ensures (omega arith)

pub loop-at-2-preserved : goal.loop-at-2-preserved
loop-at-2-preserved c = one_gathered 3 _ _ _ _ c.loop-at-2.invariant (omega arith)

pub returns : goal.returns
returns c = all_gathered 3 _ _ _ _ c.loop-at-2.invariant (omega arith)

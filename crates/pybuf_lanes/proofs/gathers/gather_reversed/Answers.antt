use Rattle.std.proofs.Common.{◌≡◌, length, refl, arith}
use Rattle.pybuf_lanes.proofs.Turned.{none_turned, one_chunk_turned, one_turned, all_turned}
use Rattle.pybuf_lanes.proofs.gathers.gather_reversed.Goals as goal

pub loop-at-init : goal.loop-at-init
loop-at-init c =
    let same : length c.args.room.now ≡ length c.args.source.now = c.requires in
    none_turned c.args.source.now (length c.args.room.now) c.args.room.now same refl

pub loop-at-preserved : goal.loop-at-preserved
loop-at-preserved c = one_chunk_turned _ _ _ _ _ c.loop-at.invariant (omega arith) c.turned_at.ensures

pub loop-at-2-preserved : goal.loop-at-2-preserved
loop-at-2-preserved c = one_turned _ _ _ _ c.loop-at-2.invariant (omega arith)

pub returns : goal.returns
returns c = all_turned _ _ _ _ c.loop-at-2.invariant (omega arith)

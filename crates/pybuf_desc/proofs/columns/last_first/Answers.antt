use Rattle.std.proofs.Common.{◌≡◌, ◌+◌, ◌-◌, ◌<◌, ◌≤◌, length, length-set, arith, ◌∙◌}
use Rattle.pybuf_desc.proofs.Moves.{dim_at}
use Rattle.pybuf_desc.proofs.ColumnWalks.{one_more}
use Rattle.pybuf_desc.proofs.columns.last_first.Goals as goal

pub loop-k-preserved : goal.loop-k-preserved
loop-k-preserved c =
    let whole : c.loop-k.count + c.loop-k.k ≡ length c.args.dims.now = c.loop-k.invariant.0 in
    let long : length c.loop-k.turned ≡ 64 = c.loop-k.invariant.2 in
    let some : 0 < c.loop-k.k = c.loop-k-test.true in
    let few : length c.args.dims.now ≤ 64 = c.requires in (
      omega (arith, whole, some),
      one_more c.args.dims.now c.loop-k.turned c.loop-k.count c.loop-k.k some (omega (arith, whole)) (omega (arith, whole, long, some, few)) c.loop-k.invariant.1,
      length-set c.loop-k.turned c.loop-k.count (dim_at c.args.dims.now (c.loop-k.k - 1)) ∙ long,
    )

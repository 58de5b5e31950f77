use Rattle.std.proofs.Common.{arith, ◌*◌, ◌≤◌, pos, get_or}
use Rattle.pybuf_desc.proofs.Products.{extent_above, extent_skips, extent_grows}
use Rattle.pybuf_desc.proofs.checks.extent.Goals as goal
use Rattle.pybuf_desc.proofs.checks.extent.Goals.{then-dim-ne0+in_ok-next+else-next, else-dim-ne0}

pub returns-in_err-next : goal.returns-in_err-next
returns-in_err-next c =
    let above : c.loop-dim.extent * (get_or c.args.dims.now c.loop-dim.dim-index (0, pos 0, pos 0)).0 ≤ _ = extent_above c.loop-dim.extent c.loop-dim.dim-index _ c.args.dims.now (omega arith) c.if-dim-ne0.true c.loop-dim.invariant.1 in
    grind (arith, above, c.in_err-next.ensures)

pub returns-then-next : goal.returns-then-next
returns-then-next c =
    let above : c.loop-dim.extent * (get_or c.args.dims.now c.loop-dim.dim-index (0, pos 0, pos 0)).0 ≤ _ = extent_above c.loop-dim.extent c.loop-dim.dim-index _ c.args.dims.now (omega arith) c.if-dim-ne0.true c.loop-dim.invariant.1 in
    grind (arith, above, c.in_ok-next.ensures)

pub loop-dim-preserved : goal.loop-dim-preserved
loop-dim-preserved c =
    elim c.if-dim-ne0.branch [
      | then-dim-ne0+in_ok-next+else-next w ↦ grind (arith, extent_grows, w.in_ok-next.ensures)
      | else-dim-ne0 w ↦ grind (arith, extent_skips)
    ]

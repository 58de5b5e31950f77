use Rattle.std.proofs.Common.{◌+◌, ◌++◌, ap, refl, sym, ◌∙◌, drop, slice_index_or, pos}
use Rattle.pybuf_nd.specs.Merged.{lie_together, merged_from}
use Rattle.pybuf_nd.proofs.Joining.{fits_here, taken_in, left_alone, fits_taken_in, fits_left_alone}
use Rattle.pybuf_nd.proofs.merging.merged_from.Goals as goal
use Rattle.pybuf_nd.proofs.merging.merged_from.Goals.{then-lie_together, else-lie_together+in_ok-push}

pub joined-last-requires : goal.joined-last-requires
joined-last-requires c =
    fits_here c.loop-dim.last (slice_index_or c.args.rest.now c.loop-dim.dim-index (0, pos 0, pos 0)) c.args.rest.now c.loop-dim.dim-index c.loop-dim-test.true refl c.loop-dim.invariant.1

pub loop-dim-preserved : goal.loop-dim-preserved
loop-dim-preserved c =
    let rest = c.args.rest.now in
    let k = c.loop-dim.dim-index in
    let below = c.loop-dim-test.true in
    let last = c.loop-dim.last in
    let dim = slice_index_or rest k (0, pos 0, pos 0) in
    let next = c.if-lie_together.last in
    elim c.if-lie_together.branch [
      | then-lie_together w ↦
          let made = w.last-is ∙ w.joined-last.ensures in (
            ap (λ xs. xs ++ merged_from next (drop (k + 1) rest)) w.list-is
                ∙ taken_in c.loop-dim.list _ last dim next rest k below refl (sym c.lie_together.ensures ∙ w.if-lie_together.true) made c.loop-dim.invariant.0,
            fits_taken_in last dim next rest k below refl made c.loop-dim.invariant.1,
          )
      | else-lie_together+in_ok-push w ↦ (
        left_alone c.loop-dim.list c.if-lie_together.list _ last next rest k below w.last-is (ap (lie_together last) w.last-is ∙ sym c.lie_together.ensures ∙ w.if-lie_together.false)
            (w.list-is ∙ w.in_ok-push.ensures.ok) c.loop-dim.invariant.0,
        fits_left_alone last next rest k below w.last-is c.loop-dim.invariant.1,
      )
    ]

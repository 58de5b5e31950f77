use Rattle.std.proofs.Common.{◌-◌, ◌*◌, ◌^◌, min, get_or, ap, ◌∙◌}
use Rattle.pybuf_state.proofs.Counts.{count_more}
use Rattle.pybuf_state.proofs.loans.byte_count.Goals as goal

pub loop-entries-preserved : goal.loop-entries-preserved
loop-entries-preserved c =
    c.saturating_mul-count.ensures
    ∙ ap (λ k. min (k * get_or c.args.shape.now c.loop-entries.entries-index 0) (2 ^ 64 - 1)) c.loop-entries.invariant
    ∙ count_more c.args.itemsize c.args.shape.now c.loop-entries.entries-index 0 (2 ^ 64 - 1) c.loop-entries-test.true

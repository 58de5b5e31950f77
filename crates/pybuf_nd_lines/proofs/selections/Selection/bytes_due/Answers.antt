use Rattle.std.proofs.Common.{sym, ap, arith}
use Rattle.pybuf_nd_lines.specs.Selections.{Selection}
use Rattle.pybuf_nd_lines.proofs.Small.{due_fits}
use Rattle.pybuf_nd_lines.proofs.selections.Selection.bytes_due.Goals as goal

pub overflow_mul-items : goal.overflow_mul-items
overflow_mul-items c =
    let fits =
    due_fits c.self.inside.shape c.args.self.now.shape c.as_slice-entries-items.result.now c.loop-entries.entries-index c.loop-entries.items c.self.invariant.shape
    c.as_slice-entries-items.ensures (sym (ap (λ (s : Selection). s.shape) c.self.view_is)) c.loop-entries-test.true c.loop-entries.invariant in
    omega (arith, fits)

use Rattle.std.proofs.Common.{◌≡◌, ◌+◌, ◌-◌, refl, arith}
use Rattle.pybuf_struct.proofs.Rows.{reads_more, reads_end}
use Rattle.pybuf_struct.proofs.unpack.push_row.Goals as goal

pub loop-done-preserved : goal.loop-done-preserved
loop-done-preserved c =
    let len : (c.loop-done.at + c.size-size.result) - c.loop-done.at ≡ c.size-size.result = omega arith in
    rw c.in_ok-push.ensures.items (reads_more _ _ _ _ _ _ _ _ _ _ _ c.loop-done.invariant c.loop-done-test.true (rw len at c.in_ok-value_of.ensures))

pub returns-clause-end : goal.returns-clause-end
returns-clause-end c = rw (reads_end _ _ _ _ _ _ _ _ _ _ c.loop-done.invariant c.loop-done-test.false, c.size-size.ensures) refl

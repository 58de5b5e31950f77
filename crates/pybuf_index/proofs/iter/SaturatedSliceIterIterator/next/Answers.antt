-- The first of a falling run is its greatest number.
use Rattle.std.proofs.Common.{◌-◌, ◌∙◌, sym, length, ap, arith}
use Rattle.pybuf_index.specs.Facts.{run_length}
use Rattle.pybuf_index.proofs.SpanLemmas.{run_top_first}
use Rattle.pybuf_index.proofs.iter.SaturatedSliceIterIterator.next.Goals as goal

pub returns-then-self-clause-steps : goal.returns-then-self-clause-steps
returns-then-self-clause-steps c =
    sym c.self.view_is ∙ run_top_first c.self.inside.falls c.self.inside.low c.self.inside.stride c.self.inside.left c.if-self.true c.if-self-eq0.false

pub returns-then-self-clause-goes : goal.returns-then-self-clause-goes
returns-then-self-clause-goes c =
    let before = run_length c.self.inside.falls c.self.inside.low c.self.inside.stride c.self.inside.left in
    let after = run_length c.self.inside.falls c.self.inside.low c.self.inside.stride (c.self.inside.left - 1) in
    record { on = λ _. (tt, tt, omega (arith, before, after, ap length c.self.view_is, c.if-self-eq0.false)); keeps = tt; rests = λ _. tt }

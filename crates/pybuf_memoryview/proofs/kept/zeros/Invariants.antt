use Rattle.std.proofs.Common.{◌≡◌, pos, replicate}
use Rattle.pybuf_memoryview.proofs.kept.zeros.Given as goal

abbrev pub invariant-loop : goal.invariant-loop
invariant-loop l = l.list ≡ replicate l.counter (pos 0)

use Rattle.std.proofs.Common.{◌≡◌}
use Rattle.bstr.specs.Text.{repeated}
use Rattle.pybuf_search.proofs.joins.times_over.Given as goal

abbrev pub invariant-loop-time : goal.invariant-loop-time
invariant-loop-time l = l.whole.items ≡ repeated l._time l.bytes

use Rattle.std.proofs.Common.{◌≡◌, ◌+◌, length, take, drop, reverse}
use Rattle.pybuf_desc.proofs.columns.last_first.Given as goal

abbrev pub decreases-loop-k : goal.decreases-loop-k
decreases-loop-k l = l.k

abbrev pub invariant-loop-k : goal.invariant-loop-k
invariant-loop-k l = (l.count + l.k ≡ length l.dims) × (take l.count l.turned ≡ reverse (drop l.k l.dims)) × (length l.turned ≡ 64)

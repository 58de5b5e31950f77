use Rattle.std.proofs.Common.{◌≡◌, ◌+◌, ◌==◌, count_by, length}
use Rattle.pybuf_lanes.proofs.counting.count_byte.Given as goal

abbrev pub invariant-loop-lanes : goal.invariant-loop-lanes
invariant-loop-lanes l = l.count + count_by (λ x. x == l.byte) l.rest ≡ count_by (λ x. x == l.byte) l.bytes

abbrev pub decreases-loop-lanes : goal.decreases-loop-lanes
decreases-loop-lanes l = length l.rest

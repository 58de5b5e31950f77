use Rattle.std.proofs.Common.{◌-◌}
use Rattle.pybuf_lanes.proofs.Turned.{IsTurned}
use Rattle.pybuf_lanes.proofs.gathers.gather_reversed.Given as goal

abbrev pub invariant-loop-at : goal.invariant-loop-at
invariant-loop-at l = IsTurned l.source l.len l.room l.at

abbrev pub decreases-loop-at : goal.decreases-loop-at
decreases-loop-at l = l.len - l.at

abbrev pub invariant-loop-at-2 : goal.invariant-loop-at-2
invariant-loop-at-2 l = IsTurned l.source l.len l.room l.at

abbrev pub decreases-loop-at-2 : goal.decreases-loop-at-2
decreases-loop-at-2 l = l.len - l.at

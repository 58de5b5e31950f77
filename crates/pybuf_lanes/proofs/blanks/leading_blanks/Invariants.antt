use Rattle.std.proofs.Common.{◌-◌, length}
use Rattle.pybuf_lanes.specs.Blanks.{is_blank}
use Rattle.pybuf_lanes.proofs.Runs.{PassedUpTo}
use Rattle.pybuf_lanes.proofs.blanks.leading_blanks.Given as goal

abbrev pub invariant-loop-at : goal.invariant-loop-at
invariant-loop-at l = PassedUpTo is_blank l.bytes l.at

abbrev pub decreases-loop-at : goal.decreases-loop-at
decreases-loop-at l = length l.bytes - l.at

abbrev pub invariant-loop-at-2 : goal.invariant-loop-at-2
invariant-loop-at-2 l = PassedUpTo is_blank l.bytes l.at

abbrev pub decreases-loop-at-2 : goal.decreases-loop-at-2
decreases-loop-at-2 l = length l.bytes - l.at

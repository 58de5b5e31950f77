use Rattle.pybuf_lanes.specs.Blanks.{is_blank}
use Rattle.pybuf_lanes.proofs.Runs.{PassedDownTo}
use Rattle.pybuf_lanes.proofs.blanks.trailing_blanks.Given as goal

abbrev pub invariant-loop-end : goal.invariant-loop-end
invariant-loop-end l = PassedDownTo is_blank l.bytes l.end

abbrev pub decreases-loop-end : goal.decreases-loop-end
decreases-loop-end l = l.end

abbrev pub invariant-loop-end-2 : goal.invariant-loop-end-2
invariant-loop-end-2 l = PassedDownTo is_blank l.bytes l.end

abbrev pub decreases-loop-end-2 : goal.decreases-loop-end-2
decreases-loop-end-2 l = l.end

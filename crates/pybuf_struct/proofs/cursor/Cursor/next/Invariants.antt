use Rattle.std.proofs.Common.{◌≡◌, length}
use Rattle.pybuf_struct.specs.Cursor.{remaining, end}
use Rattle.pybuf_struct.proofs.cursor.Cursor.next.Given as goal

abbrev pub invariant-loop-here : goal.invariant-loop-here
invariant-loop-here l = record {
  fields : remaining l.here ≡ remaining l.initial.here;
  end : end l.here ≡ end l.initial.here;
  order : l.here.order ≡ l.initial.here.order;
}

abbrev pub decreases-loop-here : goal.decreases-loop-here
decreases-loop-here l = length l.here.codes.now

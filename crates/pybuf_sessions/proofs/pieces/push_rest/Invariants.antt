use Rattle.std.proofs.Common.{◌≤◌}
use Rattle.pybuf_sessions.specs.Pieces.{pieces}
use Rattle.pybuf_sessions.proofs.Putting.{PutSoFar, left_from}
use Rattle.pybuf_sessions.proofs.pieces.push_rest.Given as goal

-- the pieces so far, and the place of the one that is begun
pub record Begun (Put Within : Type 0) : Type 0 where
  pub put : Put
  pub within : Within

abbrev pub invariant-loop-i : goal.invariant-loop-i
invariant-loop-i l =
    Begun
    (PutSoFar (pieces l.rest) l.initial.text.items l.initial.loans l.text.items l.loans (left_from l.rest l.start l.i l.quoted))
    (l.start ≤ l.i)

use Rattle.std.proofs.Common.{◌≡◌, ◌+◌, ◌≤◌}
use Rattle.pybuf_share.specs.Sessions.{sessions_from}
use Rattle.pybuf_share.proofs.logged.sessions_by.Given as goal

-- The sessions up to a number are made, and each of them took a part of the ledger.
abbrev pub invariant-loop-number : goal.invariant-loop-number
invariant-loop-number g l = (l.made.items ≡ sessions_from 0 l.number) × (l.share.parts + l.number ≡ l.fn.sessions) × (l.share.amount ≡ 0) × (l.number ≤ l.fn.sessions)

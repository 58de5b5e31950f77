use Rattle.std.proofs.Common.{◌≡◌, ◌+◌}
use Rattle.std.specs.List.{All}
use Rattle.pybuf_share.specs.Finishing.{parts_of, calls_of, IsOwn}
use Rattle.pybuf_share.proofs.logged.count_calls.Given as goal

-- What the remaining sessions have, and what was added up, is what all sessions have.
abbrev pub invariant-loop-session : goal.invariant-loop-session
invariant-loop-session g l =
    (l.all.parts + parts_of l.left.items ≡ parts_of l.fn.sessions.items)
    × (l.all.amount + calls_of l.left.items ≡ calls_of l.fn.sessions.items)
    × (l.calls.total ≡ l.fn.calls.total)
    × (All IsOwn l.left.items → All IsOwn l.fn.sessions.items)

abbrev pub decreases-loop-session : goal.decreases-loop-session
decreases-loop-session g l = goal.left-loop-session g l

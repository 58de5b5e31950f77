use Rattle.std.proofs.Common.{◌≡◌, take, drop, length}
use Rattle.std.specs.Vec.Iter.{into_iter_items}
use Rattle.pybuf_share.specs.Working.{works_from}
use Rattle.pybuf_share.proofs.running.workers_of.Given as goal

-- As many workers were made as sessions were taken, and as scripts were taken.
abbrev pub invariant-loop-session : goal.invariant-loop-session
invariant-loop-session g l =
    (l.workers.items ≡ works_from 0 (take (length l.yielded) l.fn.scripts))
    × (into_iter_items l.left ≡ drop (length l.yielded) l.fn.scripts)
    × (into_iter_items l.session-iterator ≡ drop (length l.yielded) l.fn.sessions.items)

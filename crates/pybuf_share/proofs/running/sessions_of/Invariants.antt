use Rattle.std.proofs.Common.{◌≡◌, map}
use Rattle.pybuf_share.specs.Working.{HaveDone}
use Rattle.pybuf_share.proofs.running.sessions_of.Given as goal

abbrev pub invariant-loop-worker : goal.invariant-loop-worker
invariant-loop-worker g l = (l.sessions.items ≡ map (λ w. w.asker) l.yielded) × HaveDone (map (λ w. w.script) l.yielded) l.sessions.items

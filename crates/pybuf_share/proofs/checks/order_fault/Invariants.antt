use Rattle.std.proofs.Common.{◌≡◌, drop}
use Rattle.pybuf_share.specs.Finishing.{order_fault}
use Rattle.pybuf_share.proofs.checks.order_fault.Given as goal

abbrev pub invariant-loop-session : goal.invariant-loop-session
invariant-loop-session g l = order_fault (drop l.session-index l.sessions) ≡ order_fault l.sessions

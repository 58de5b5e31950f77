use Rattle.std.proofs.Common.{take}
use Rattle.std.specs.List.{All}
use Rattle.pybuf_share.specs.Finishing.{Stands, receipts_of}
use Rattle.pybuf_share.proofs.checks.check_sessions.Given as goal

abbrev pub invariant-loop-session : goal.invariant-loop-session
invariant-loop-session g l = All (Stands l.entries) (receipts_of (take l.session-index l.sessions))

use Rattle.pybuf_cli.proofs.Shared.{front_of_lines, nothing_of_lines, ends_of_sessions}
use Rattle.std.proofs.Common.{false}
use Rattle.pybuf_cli.proofs.sharing.answer.Goals as goal

pub returns-in-Ok-clause-done : goal.returns-in-Ok-clause-done
returns-in-Ok-clause-done g c = λ done. (c.in-Ok.sessions, c.in-Ok.ensures.read, c.share_sessions.ensures.done done)

pub returns-in-Ok-clause-disagree : goal.returns-in-Ok-clause-disagree
returns-in-Ok-clause-disagree g c = λ fault. (c.in-Ok.sessions, c.in-Ok.ensures.read, c.share_sessions.ensures.disagree fault)

pub returns-in-Ok-clause-prefix : goal.returns-in-Ok-clause-prefix
returns-in-Ok-clause-prefix g c = front_of_lines _ c.in-Ok.sessions _ _ c.in-Ok.ensures.read c.share_sessions.ensures.prefix

pub returns-in-Ok-clause-ending : goal.returns-in-Ok-clause-ending
returns-in-Ok-clause-ending g c = ends_of_sessions _ c.in-Ok.sessions c.share_sessions.result c.in-Ok.ensures.read c.share_sessions.ensures.ending

pub returns-in-Err-NoMemory-clause-prefix : goal.returns-in-Err-NoMemory-clause-prefix
returns-in-Err-NoMemory-clause-prefix g c = nothing_of_lines false _ _

use Rattle.pybuf_sessions.proofs.OfLines.{sessions_of, wrong_is_first}
use Rattle.pybuf_sessions.proofs.laws.sessions_are_of_lines.Goals as goal

pub returns-clause-each : goal.returns-clause-each
returns-clause-each c = sessions_of

pub returns-clause-first : goal.returns-clause-first
returns-clause-first c = wrong_is_first

use Rattle.pybuf_sessions.proofs.Written.{lines_read_back, openings_read_back}
use Rattle.pybuf_sessions.proofs.laws.session_lines_read_back.Goals as goal

pub returns-clause-commands : goal.returns-clause-commands
returns-clause-commands c = lines_read_back c.commands_read_back.ensures

pub returns-clause-openings : goal.returns-clause-openings
returns-clause-openings c = openings_read_back c.commands_read_back.ensures

use Rattle.pybuf_line.proofs.LineLaws.{each_command, first_bad}
use Rattle.pybuf_line.proofs.laws.commands_are_of_lines.Goals as goal

pub returns-clause-each : goal.returns-clause-each
returns-clause-each c = each_command

pub returns-clause-first : goal.returns-clause-first
returns-clause-first c = first_bad

use Rattle.pybuf_cli.proofs.ScriptLaws.{scripts_spelled}
use Rattle.pybuf_cli.proofs.ScriptLengths.{scripts_run}
use Rattle.pybuf_cli.proofs.laws.scripts_are_spelled.Goals as goal

pub returns-clause-spelled : goal.returns-clause-spelled
returns-clause-spelled c = scripts_spelled c.commands_read_back.ensures c.replies_are_single_lines.ensures.handles

pub returns-clause-run : goal.returns-clause-run
returns-clause-run c = scripts_run (scripts_spelled c.commands_read_back.ensures c.replies_are_single_lines.ensures.handles)

use Rattle.pybuf_command.proofs.SameCommands.{commands_same}
use Rattle.pybuf_command.proofs.laws.equal_commands_are_the_same.Goals as goal

pub returns : goal.returns
returns c = commands_same c.equal_values_are_the_same.ensures

use Rattle.std.proofs.Common.{◌≡◌, map}
use Rattle.example_users.specs.Program.{command_of}
use Rattle.example_users.proofs.interpreter.commands.Given as goal

abbrev pub invariant-loop-statement : goal.invariant-loop-statement
invariant-loop-statement l = l.commands.items ≡ map command_of l.yielded

-- Which command of a world each statement of a program is.
use Rattle.std.specs.Prelude.{◌≡◌, ℤ, List, Some, None}
use Rattle.pybuf_value.specs.declared.values.Scalar.TheVariants as scalar
use Rattle.pybuf_value.specs.declared.values.Value.{Value}
use Rattle.pybuf_value.specs.declared.values.Value.TheVariants as value
use Rattle.pybuf_command.specs.declared.kinds.ExporterKind.TheVariants as kinds
use Rattle.pybuf_command.specs.declared.commands.Verb.TheVariants as verb
use Rattle.pybuf_command.specs.declared.worlds.Command.{Command}
use Rattle.pybuf_command.specs.declared.worlds.Command.TheVariants as command
use Rattle.pybuf_world.specs.World.{World, empty_world, world_after_all}
use Rattle.example_users.specs.declared.interpreter.Statement.{Statement}
use Rattle.example_users.specs.declared.interpreter.Statement.TheVariants as statement

abbrev pub number_value : ℤ → Value
number_value n = value.One (scalar.Int n)

-- the command of a statement
abbrev pub command_of : Statement → Command
command_of (statement.ByteArray bytes) = command.New kinds.ByteArray (record { source = Some (value.One (scalar.Bytes bytes)); encoding = None; errors = None })
command_of (statement.MemoryView object) = command.Do object verb.View
command_of (statement.Cast object format) = command.Do object (verb.Cast (value.One (scalar.Text format)) None)
command_of (statement.GetItem object index) = command.Do object (verb.Get (number_value index))
command_of (statement.SetItem object index value) = command.Do object (verb.Set (number_value index) (number_value value))
command_of (statement.Append object value) = command.Do object (verb.Append (number_value value))
command_of (statement.Bytes object) = command.Do object (verb.ToBytes None)
command_of (statement.Release object) = command.Do object verb.Release

-- What holds of an interpreter's world: commands made it from an empty world.
pub record IsMade (w : World) : Type 0 where
  pub commands : List Command
  pub after : w ≡ world_after_all empty_world commands

-- What a function that reads an input gives.
use Rattle.std.specs.Prelude.{◌≡◌, ℕ, List, Result, Ok, Err}
use Rattle.pybuf_command.specs.declared.worlds.Command.{Command}
use Rattle.pybuf_line.specs.declared.unread.Misread.{Misread}
use Rattle.pybuf_line.specs.declared.unread.Misread.TheVariants as misread

-- The commands of the input, or the number of its first line that is no command. Memory may run out.
abbrev pub ReadsAll : Result (List Command) Misread → Result (List Command) ℕ → Type 0
ReadsAll (Ok commands) read = read ≡ Ok commands
ReadsAll (Err (misread.BadLine n)) read = read ≡ Err n
ReadsAll (Err misread.NoMemory) read = Unit {0}

-- What a function that reads a line promises, by the definition that it reads by.
use Rattle.std.specs.Prelude.{◌≡◌, ℕ, List, Option, Some, None, Result, Ok, Err}
use Rattle.pybuf_command.specs.declared.worlds.Command.{Command}
use Rattle.pybuf_line.specs.declared.unread.Unread.{Unread}
use Rattle.pybuf_line.specs.declared.unread.Unread.TheVariants as unread
use Rattle.pybuf_line.specs.declared.unread.Misread.{Misread}
use Rattle.pybuf_line.specs.declared.unread.Misread.TheVariants as misread

-- What was read is what the definition gives, and the definition gives nothing if the line is no command.
-- Memory may run out.
abbrev pub Reads : {X : Type 0} → Result X Unread → Option X → Type 0
Reads (Ok x) read = read ≡ Some x
Reads (Err unread.NoCommand) read = read ≡ None
Reads (Err unread.NoMemory) read = Unit {0}

-- Whether all lines of an input are commands. If one isn't, the number of the first such line is told. Memory
-- may run out.
abbrev pub ChecksAll : {X : Type 0} → Result X Misread → Result (List Command) ℕ → Type 0
ChecksAll (Ok x) read = (commands : List Command) × (read ≡ Ok commands)
ChecksAll (Err (misread.BadLine n)) read = read ≡ Err n
ChecksAll (Err misread.NoMemory) read = Unit {0}

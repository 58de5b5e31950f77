-- The commands that were read of the lines of an input.
use Rattle.std.proofs.Common.{◌≡◌, ℕ, ◌+◌, List, ◌++◌, length, Result, Ok, Err}
use Rattle.pybuf_command.specs.declared.worlds.Command.{Command}
use Rattle.pybuf_line.specs.Scalars.{handle_in}
use Rattle.pybuf_line.specs.Lines.{lines, commands_from, commands_in}

-- commands that were read, in front of those of the lines that are left
abbrev pub behind : List Command → Result (List Command) ℕ → Result (List Command) ℕ
behind read (Ok rest) = Ok (read ++ rest)
behind read (Err n) = Err n

-- The commands of all lines are those that were read, and then those of the lines that are left.
abbrev pub IsRead : List ℕ → List Command → List ℕ → Type 0
IsRead input read rest = commands_in handle_in input ≡ behind read (commands_from handle_in (length read + 1) (lines rest))

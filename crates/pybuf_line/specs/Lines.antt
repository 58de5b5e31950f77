-- The lines of an input, and their commands.
use Rattle.std.specs.Prelude.{ℕ, ◌+◌, List, [], ◌∷◌, length, ◌==◌, Option, Some, None, Result, Ok, Err, if◌then◌else◌}
use Rattle.pybuf_command.specs.declared.worlds.Command.{Command}
use Rattle.pybuf_line.specs.Parts.{parts_at}
use Rattle.pybuf_line.specs.Commands.{command_in}

-- the parts, without an empty last one
abbrev pub without_empty_last : List (List ℕ) → List (List ℕ)
without_empty_last [] = []
without_empty_last (part ∷ []) = if length part == 0 then [] else part ∷ []
without_empty_last (part ∷ next ∷ more) = part ∷ without_empty_last (next ∷ more)

-- Each line of an input ends with a line feed, which only the last line may lack.
abbrev pub lines : List ℕ → List (List ℕ)
lines input = without_empty_last (parts_at 10 input)

-- The commands with one more before them, or the number of the line if that is no command.
abbrev pub before : ℕ → Option Command → Result (List Command) ℕ → Result (List Command) ℕ
before n None rest = Err n
before n (Some c) (Ok rest) = Ok (c ∷ rest)
before n (Some c) (Err m) = Err m

-- the commands of lines that are counted from n on, or the number of the first that is no command
abbrev pub commands_from : (List ℕ → Option ℕ) → ℕ → List (List ℕ) → Result (List Command) ℕ
commands_from name_in n [] = Ok []
commands_from name_in n (line ∷ rest) = before n (command_in name_in line) (commands_from name_in (n + 1) rest)

-- the commands of an input, line by line, or the number of the first line that is no command
abbrev pub commands_in : (List ℕ → Option ℕ) → List ℕ → Result (List Command) ℕ
commands_in name_in input = commands_from name_in 1 (lines input)

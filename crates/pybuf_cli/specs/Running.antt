-- What one line does to a world, and to the text that is written.
use Rattle.std.specs.Prelude.{◌≡◌, ℕ, List, ◌++◌, Some, Ok}
use Rattle.pybuf_command.specs.declared.worlds.Command.{Command}
use Rattle.pybuf_world.specs.World.{World, wstep}
use Rattle.pybuf_value.specs.Spelling.{handle_text}
use Rattle.pybuf_line.specs.Scalars.{handle_in}
use Rattle.pybuf_line.specs.Commands.{command_in}
use Rattle.pybuf_line.specs.Lines.{commands_in}
use Rattle.pybuf_line.specs.Replies.{reply_line}

-- The line is a command.
abbrev pub IsSpelled : List ℕ → Type 0
IsSpelled line = (c : Command) × (command_in handle_in line ≡ Some c)

-- Each line of the input is a command.
abbrev pub AreSpelled : List ℕ → Type 0
AreSpelled input = (commands : List Command) × (commands_in handle_in input ≡ Ok commands)

-- The world made a step by a command, and the line of its reply was added to the text.
abbrev pub IsCarriedOut : World → Command → List ℕ → World → List ℕ → Type 0
IsCarriedOut old c text new longer = (new ≡ (wstep old c).0) × (longer ≡ text ++ reply_line handle_text (wstep old c).1)

-- This holds for the command of the line.
abbrev pub IsAnswered : World → List ℕ → List ℕ → World → List ℕ → Type 0
IsAnswered old line text new longer = (c : Command) → command_in handle_in line ≡ Some c → IsCarriedOut old c text new longer

-- What a line `S WORD NAME ARGS` asks for: the number of a session, and a command. Handles replace the names.
use Rattle.std.specs.Prelude.{◌≡◌, ℕ, List, ◌∷◌, ◌++◌, length, nat_le, Option, Some, None, if◌then◌else◌}
use Rattle.std.specs.List.{list_any, flat_map}
use Rattle.std.specs.Str.{byte}
use Rattle.pybuf_value.specs.Choosing.{◌>>=◌}
use Rattle.pybuf_value.specs.Spelling.{handle_text}
use Rattle.pybuf_command.specs.declared.kinds.Subject.{Subject}
use Rattle.pybuf_command.specs.declared.loans.Loan.{Loan}
use Rattle.pybuf_command.specs.declared.commands.LocalCommand.{LocalCommand}
use Rattle.pybuf_command.specs.declared.worlds.Command.{Command}
use Rattle.pybuf_command.specs.declared.worlds.Command.TheVariants as command
use Rattle.pybuf_line.specs.Scalars.{number_below, handle_in}
use Rattle.pybuf_line.specs.Words.{words}
use Rattle.pybuf_line.specs.Commands.{command_in}
use Rattle.pybuf_sessions.specs.Names.{name_in}
use Rattle.pybuf_sessions.specs.Pieces.{pieces, is_handle, handled_from, loans_from}
use Rattle.pybuf_sessions.specs.declared.asks.Ask.{Ask}

-- a session's number: one or two decimal digits of a number below 16
abbrev pub session_in : List ℕ → Option ℕ
session_in text = if nat_le (length text) 2 then number_below 16 text else None

-- a command on this subject, if the line asks for a command on a handle
abbrev pub local_of : Subject → List (ℕ × Loan) → Option Command → Option LocalCommand
local_of s loans (Some (command.Do handle v)) = Some (record { subject = s; verb = v; loans = loans })
local_of s loans (Some (command.New kind options)) = None
local_of s loans None = None

-- A command by its subject, its word and the text behind the subject. It is spelled as any other, after handles
-- replaced the names. A text that has a handle of its own spells no command.
abbrev pub local_command_in : Subject → List ℕ → List ℕ → Option LocalCommand
local_command_in s word rest =
    if list_any is_handle (pieces rest) then None
    else local_of s (loans_from 0 (pieces rest)) (command_in handle_in (word ++ byte " " ∷ handle_text 0 ++ handled_from 0 (pieces rest)))

-- words with a blank before each
abbrev pub rest_text : List (List ℕ) → List ℕ
rest_text arguments = flat_map (λ word. byte " " ∷ word) arguments

-- what words ask for
abbrev pub ask_of_words : List (List ℕ) → Option Ask
ask_of_words (session ∷ word ∷ name ∷ arguments) = do
  n ← session_in session
  s ← name_in name
  c ← local_command_in s word (rest_text arguments)
  Some (record { session = n; command = c })
ask_of_words _ = None

-- what a line asks for, or nothing
unfoldable pub ask_in : List ℕ → Option Ask
ask_in line = ask_of_words (words line)

-- The text begins with a word, and the rest is what stands behind that word.
pub record IsFront (text word rest : List ℕ) : Type 0 where
  pub arguments : List (List ℕ)
  pub cut : words text ≡ word ∷ arguments
  pub behind : rest_text arguments ≡ rest

-- The lines of sessions. The first is `new KIND xHEX`, and each further line is a command.
use Rattle.std.specs.Prelude.{ℕ, ◌+◌, List, [], ◌∷◌, Option, Some, None, Result, Ok, Err}
use Rattle.pybuf_value.specs.declared.values.Scalar.TheVariants as scalar
use Rattle.pybuf_value.specs.declared.values.Value.{Value}
use Rattle.pybuf_value.specs.declared.values.Value.TheVariants as value
use Rattle.pybuf_command.specs.declared.kinds.ExporterKind.{ExporterKind}
use Rattle.pybuf_command.specs.declared.commands.LocalCommand.{LocalCommand}
use Rattle.pybuf_command.specs.declared.worlds.Command.{Command}
use Rattle.pybuf_command.specs.declared.worlds.Command.TheVariants as command
use Rattle.pybuf_line.specs.Scalars.{handle_in}
use Rattle.pybuf_line.specs.Commands.{command_in}
use Rattle.pybuf_line.specs.Lines.{lines}
use Rattle.pybuf_share.specs.History.{Opening}
use Rattle.pybuf_sessions.specs.Asks.{ask_in}
use Rattle.pybuf_sessions.specs.Scripts.{scripts_of}
use Rattle.pybuf_sessions.specs.declared.asks.Ask.{Ask}
use Rattle.pybuf_sessions.specs.declared.sessions.Sessions.{Sessions}

-- the bytes of a value, if the value is bytes
abbrev pub bytes_in_value : Value → Option (List ℕ)
bytes_in_value (value.One (scalar.Bytes bytes)) = Some bytes
bytes_in_value _ = None

-- the bytes of a source that has no encoding and no handler of errors beside it
abbrev pub bytes_alone : Option Value → Option Value → Option Value → Option (List ℕ)
bytes_alone source (Some encoding) errors = None
bytes_alone source None (Some errors) = None
bytes_alone (Some source) None None = bytes_in_value source
bytes_alone None None None = None

-- the opening with a kind and bytes, if there are bytes
abbrev pub opening_with : ExporterKind → Option (List ℕ) → Option Opening
opening_with k (Some bytes) = Some (record { kind = k; bytes = bytes })
opening_with k None = None

abbrev pub opening_of : Option Command → Option Opening
opening_of (Some (command.New k options)) = opening_with k (bytes_alone options.source options.encoding options.errors)
opening_of _ = None

-- `new KIND xHEX`: the kind of the exporter, and its bytes
unfoldable pub opening_in : List ℕ → Option Opening
opening_in line = opening_of (command_in handle_in line)

-- what lines ask for with one more before them, or the number of the line if it asks for nothing
abbrev pub ask_before : ℕ → Option Ask → Result (List Ask) ℕ → Result (List Ask) ℕ
ask_before n None rest = Err n
ask_before n (Some ask) (Ok asks) = Ok (ask ∷ asks)
ask_before n (Some ask) (Err m) = Err m

-- what lines ask for that are counted from n on, or the number of the first that asks for nothing
abbrev pub asks_from : ℕ → List (List ℕ) → Result (List Ask) ℕ
asks_from n [] = Ok []
asks_from n (line ∷ rest) = ask_before n (ask_in line) (asks_from (n + 1) rest)

-- the scripts of what lines ask for
abbrev pub scripts_for : Result (List Ask) ℕ → Result (List (List LocalCommand)) ℕ
scripts_for (Ok asks) = Ok (scripts_of asks)
scripts_for (Err n) = Err n

-- the sessions of an exporter with this opening
abbrev pub sessions_for : Opening → Result (List (List LocalCommand)) ℕ → Result Sessions ℕ
sessions_for opening (Ok scripts) = Ok (record { kind = opening.kind; bytes = opening.bytes; scripts = scripts })
sessions_for opening (Err n) = Err n

abbrev pub sessions_from : Option Opening → List (List ℕ) → Result Sessions ℕ
sessions_from None rest = Err 1
sessions_from (Some opening) rest = sessions_for opening (scripts_for (asks_from 2 rest))

abbrev pub sessions_of_lines : List (List ℕ) → Result Sessions ℕ
sessions_of_lines [] = Err 1
sessions_of_lines (first ∷ rest) = sessions_from (opening_in first) rest

-- The sessions of an input, or the number of its first line that is wrong. If the input has no line, that
-- number is 1.
abbrev pub sessions_in : List ℕ → Result Sessions ℕ
sessions_in input = sessions_of_lines (lines input)

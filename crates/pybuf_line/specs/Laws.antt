-- Laws of lines, of their commands and values, and of the texts of replies.
use Rattle.std.specs.Prelude.{◌≡◌, ◌⊎◌, ℕ, ◌+◌, ◌^◌, ◌<◌, ℤ, pos, negsuc, IsTrue, List, [], ◌∷◌, ◌++◌, length, map, ◌==◌, false, Option, Some, None, Ok, Err}
use Rattle.std.specs.Str.{byte}
use Rattle.std.specs.List.{flat_map, join_with_byte, list_any, AllByRecursion}
use Rattle.pybuf_command.specs.declared.commands.Verb.{Verb}
use Rattle.pybuf_command.specs.declared.commands.Verb.TheVariants as verb
use Rattle.pybuf_command.specs.declared.options.ByteInnerNewOptions.{ByteInnerNewOptions}
use Rattle.pybuf_command.specs.declared.methods.MethodCall.{MethodCall}
use Rattle.pybuf_command.specs.Arity.{takes}
use Rattle.pybuf_command.specs.declared.worlds.Command.{Command}
use Rattle.pybuf_command.specs.declared.worlds.Command.TheVariants as command
use Rattle.pybuf_command.specs.declared.worlds.Reply.{Reply}
use Rattle.pybuf_command.specs.declared.worlds.Reply.TheVariants as reply
use Rattle.pybuf_value.specs.declared.values.Scalar.{Scalar}
use Rattle.pybuf_value.specs.declared.values.Scalar.TheVariants as scalar
use Rattle.pybuf_value.specs.declared.values.PySlice.{PySlice}
use Rattle.pybuf_value.specs.declared.values.Value.{Value}
use Rattle.pybuf_value.specs.declared.values.Value.TheVariants as value
use Rattle.hex.specs.Hex.{IsBytes}
use Rattle.pybuf_line.specs.Parts.{parts_outside_quotes}
use Rattle.pybuf_line.specs.Words.{words, written_word, word_in, written_kind, kind_in, written_operator, operator_in, written_name, property_in}
use Rattle.pybuf_line.specs.Methods.{written_method, method_in}
use Rattle.pybuf_value.specs.Spelling.{handle_text}
use Rattle.pybuf_line.specs.Scalars.{enclosed_text, is_text, scalar_in, handle_in, written_scalar}
use Rattle.pybuf_line.specs.Spellings.{value_in, written_value}
use Rattle.pybuf_line.specs.Commands.{values_of, command_in, written_command}
use Rattle.pybuf_line.specs.Lines.{lines, commands_in}
use Rattle.pybuf_command.specs.Shown.{reply_text}

-- a line with its line feed
abbrev pub ended_line : List ℕ → List ℕ
ended_line line = line ++ byte "\n" ∷ []

-- The lines of an input, each with its line feed, make up the input. The input may lack the last line feed.
abbrev pub LinesJoin : Type 0
LinesJoin = (input : List ℕ) → (flat_map ended_line (lines input) ≡ input) ⊎ (flat_map ended_line (lines input) ≡ ended_line input)

-- The line has no line feed.
abbrev pub IsOneLine : List ℕ → Type 0
IsOneLine line = list_any (λ b. b == byte "\n") line ≡ false

abbrev pub LinesAreSingle : Type 0
LinesAreSingle = (input : List ℕ) → AllByRecursion IsOneLine (lines input)

-- The words of a line, with blanks between them, make up the line.
abbrev pub WordsJoin : Type 0
WordsJoin = (line : List ℕ) → join_with_byte (byte " ") (words line) ≡ line

-- The commands of an input are those of its lines.
abbrev pub CommandsAreOfLines : Type 0
CommandsAreOfLines = (name_in : List ℕ → Option ℕ) (input : List ℕ) (commands : List Command) → commands_in name_in input ≡ Ok commands →
    map (command_in name_in) (lines input) ≡ map Some commands

-- The line whose number is told is no command, and all lines before it are.
abbrev pub BadLineIsFirst : Type 0
BadLineIsFirst = (name_in : List ℕ → Option ℕ) (input : List ℕ) (n : ℕ) → commands_in name_in input ≡ Err n →
    (before : List Command) × (rest : List (Option Command))
    × (map (command_in name_in) (lines input) ≡ map Some before ++ None ∷ rest) × (n ≡ length before + 1)

-- If a reply shows a text as it is, that text is one line.
abbrev pub ShowsOneLine : Reply → Type 0
ShowsOneLine r = (text : List ℕ) → r ≡ reply.Shown text → IsOneLine text

-- The text of a reply has no line feed.
abbrev pub RepliesAreSingle : (ℕ → List ℕ) → Type 0
RepliesAreSingle name = (r : Reply) → ShowsOneLine r → IsOneLine (reply_text name r)

-- This holds however handles are named, if each name is one line.
abbrev pub NamesStaySingle : Type 0
NamesStaySingle = (name : ℕ → List ℕ) → ((n : ℕ) → IsOneLine (name n)) → RepliesAreSingle name

-- The parts of a text, with commas between them, make up the text.
abbrev pub PartsJoin : Type 0
PartsJoin = (text : List ℕ) → join_with_byte (byte ",") (parts_outside_quotes text) ≡ text

-- A part has commas only between quotes: it is its own only part.
abbrev pub IsOnePart : List ℕ → Type 0
IsOnePart part = parts_outside_quotes part ≡ part ∷ []

abbrev pub PartsAreSingle : Type 0
PartsAreSingle = (text : List ℕ) → AllByRecursion IsOnePart (parts_outside_quotes text)

-- The text is the opening byte, what stands between, and the closing byte.
abbrev pub EnclosedIsBetween : Type 0
EnclosedIsBetween = (opening closing : ℕ) (text inner : List ℕ) → enclosed_text opening closing text ≡ Some inner → text ≡ opening ∷ inner ++ closing ∷ []

abbrev pub BetweenIsEnclosed : Type 0
BetweenIsEnclosed = (opening closing : ℕ) (inner : List ℕ) → enclosed_text opening closing (opening ∷ inner ++ closing ∷ []) ≡ Some inner

abbrev pub Is128Bits : ℤ → Type 0
Is128Bits (pos n) = n < 2 ^ 127
Is128Bits (negsuc n) = n < 2 ^ 127

-- the values without parts that lines spell
abbrev pub IsSpelled : Scalar → Type 0
IsSpelled (scalar.Int number) = Is128Bits number
IsSpelled (scalar.Text text) = IsTrue (is_text text)
IsSpelled (scalar.Bytes bytes) = IsBytes bytes
IsSpelled (scalar.Handle handle) = handle < 2 ^ 64
IsSpelled _ = Unit {0}

-- A value that was written is read back.
abbrev pub ScalarsReadBack : Type 0
ScalarsReadBack = (s : Scalar) → IsSpelled s → scalar_in handle_in (written_scalar handle_text s) ≡ Some s

-- the values that may stand in a slice, which a text may not
abbrev pub IsSlicePart : Scalar → Type 0
IsSlicePart (scalar.Text text) = ⊥
IsSlicePart s = IsSpelled s

abbrev pub IsSpelledSlice : PySlice → Type 0
IsSpelledSlice slice = IsSlicePart slice.start × IsSlicePart slice.stop × IsSlicePart slice.step

-- the values that lines spell
abbrev pub IsSpelledValue : Value → Type 0
IsSpelledValue (value.One one) = IsSpelled one
IsSpelledValue (value.Slice slice) = IsSpelledSlice slice
IsSpelledValue (value.Tuple parts) = AllByRecursion IsSpelled parts
IsSpelledValue (value.List parts) = AllByRecursion IsSpelled parts
IsSpelledValue (value.Slices slices) = (0 < length slices) × AllByRecursion IsSpelledSlice slices

-- A value that was written is read back, with all its parts.
abbrev pub ValuesReadBack : Type 0
ValuesReadBack = (v : Value) → IsSpelledValue v → value_in handle_in (written_value handle_text v) ≡ Some v

-- Each entry of a list is read back from its text, and no other text is read as that entry.
pub record IsRead {A : Type 0} (name : A → List ℕ) (named : List ℕ → Option A) (IsIn : A → Type 0) : Type 0 where
  pub read : (one : A) → IsIn one → named (name one) ≡ Some one
  pub written : (text : List ℕ) (one : A) → named text ≡ Some one → text ≡ name one

-- all values of a kind
abbrev pub IsAny : {A : Type 0} → A → Type 0
IsAny one = Unit {0}

abbrev pub WordsReadBack : Type 0
WordsReadBack = IsRead written_word word_in IsAny

abbrev pub KindsReadBack : Type 0
KindsReadBack = IsRead written_kind kind_in IsAny

abbrev pub OperatorsReadBack : Type 0
OperatorsReadBack = IsRead written_operator operator_in IsAny

abbrev pub PropertiesReadBack : Type 0
PropertiesReadBack = IsRead written_name property_in IsAny

abbrev pub MethodsReadBack : Type 0
MethodsReadBack = IsRead written_method method_in IsAny

-- the options that lines spell: no option, a source, a source with its encoding, or all three
abbrev pub AreSpelledValues : Option Value → Option Value → Option Value → Type 0
AreSpelledValues None None None = Unit {0}
AreSpelledValues (Some source) None None = IsSpelledValue source
AreSpelledValues (Some source) (Some encoding) None = IsSpelledValue source × IsSpelledValue encoding
AreSpelledValues (Some source) (Some encoding) (Some errors) = IsSpelledValue source × IsSpelledValue encoding × IsSpelledValue errors
AreSpelledValues _ _ _ = ⊥

abbrev pub AreSpelledOptions : ByteInnerNewOptions → Type 0
AreSpelledOptions options = AreSpelledValues options.source options.encoding options.errors

-- the calls that lines spell, which have as many arguments as the method takes
abbrev pub IsSpelledCall : MethodCall → Type 0
IsSpelledCall method = IsTrue (takes method.name (length method.args)) × AllByRecursion IsSpelledValue method.args

-- The verbs that lines spell. Lines must spell their values, and no value stands behind one that is left out.
abbrev pub IsSpelledVerb : Verb → Type 0
IsSpelledVerb (verb.Compare operator other) = IsSpelledValue other
IsSpelledVerb (verb.Hex None (Some group)) = ⊥
IsSpelledVerb (verb.Init options) = AreSpelledOptions options
IsSpelledVerb (verb.Call method) = IsSpelledCall method
IsSpelledVerb v = AllByRecursion IsSpelledValue (values_of v)

-- the commands that lines spell
abbrev pub IsSpelledCommand : Command → Type 0
IsSpelledCommand (command.New kind options) = AreSpelledOptions options
IsSpelledCommand (command.Do handle v) = (handle < 2 ^ 64) × IsSpelledVerb v

-- A command that was written is read back.
abbrev pub CommandsReadBack : Type 0
CommandsReadBack = (c : Command) → IsSpelledCommand c → command_in handle_in (written_command handle_text c) ≡ Some c

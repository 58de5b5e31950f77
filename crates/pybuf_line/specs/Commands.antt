-- The command that a line spells, and how a command is written. A parameter says how a handle is read or
-- written.
use Rattle.std.specs.Prelude.{ℕ, List, [], ◌∷◌, length, map, Option, Some, None, if◌then◌else◌}
use Rattle.std.specs.List.{join_with_byte}
use Rattle.pybuf_value.specs.Choosing.{◌>>=◌}
use Rattle.pybuf_value.specs.declared.values.Value.{Value}
use Rattle.pybuf_command.specs.declared.options.ByteInnerNewOptions.{ByteInnerNewOptions}
use Rattle.pybuf_command.specs.declared.methods.MethodName.{MethodName}
use Rattle.pybuf_command.specs.declared.methods.MethodCall.{MethodCall}
use Rattle.pybuf_command.specs.Arity.{takes}
use Rattle.pybuf_command.specs.declared.kinds.ExporterKind.{ExporterKind}
use Rattle.pybuf_command.specs.declared.commands.Verb.{Verb}
use Rattle.pybuf_command.specs.declared.commands.Verb.TheVariants as verb
use Rattle.pybuf_command.specs.declared.worlds.Command.{Command}
use Rattle.pybuf_command.specs.declared.worlds.Command.TheVariants as command
use Rattle.pybuf_line.specs.declared.words.Word.{Word}
use Rattle.pybuf_line.specs.declared.words.Word.TheVariants as word
use Rattle.pybuf_line.specs.Words.{words, word_in, written_word, kind_in, written_kind, operator_in, written_operator, property_in, written_name}
use Rattle.pybuf_line.specs.Parts.{each}
use Rattle.pybuf_line.specs.Methods.{method_in, written_method}
use Rattle.pybuf_line.specs.Spellings.{value_in, written_value}

-- the options of `new` and `init`: up to three values, the source, its encoding and the handler of errors
abbrev pub options_in : (List ℕ → Option ℕ) → List (List ℕ) → Option ByteInnerNewOptions
options_in name_in [] = Some (record { source = None; encoding = None; errors = None })
options_in name_in (source ∷ []) = do
  s ← value_in name_in source
  Some (record { source = Some s; encoding = None; errors = None })
options_in name_in (source ∷ encoding ∷ []) = do
  s ← value_in name_in source
  e ← value_in name_in encoding
  Some (record { source = Some s; encoding = Some e; errors = None })
options_in name_in (source ∷ encoding ∷ errors ∷ []) = do
  s ← value_in name_in source
  e ← value_in name_in encoding
  h ← value_in name_in errors
  Some (record { source = Some s; encoding = Some e; errors = Some h })
options_in name_in _ = None

-- ---- the table of verbs, by how many values stand after the subject: a verb with values has a line here for
-- each number of values that it takes. The four verbs with other arguments are below, in `verb_in`.

-- the verbs without arguments
abbrev pub verb_alone : Word → Option Verb
verb_alone word.View = Some verb.View
verb_alone word.ToBytes = Some (verb.ToBytes None)
verb_alone word.Release = Some verb.Release
verb_alone word.Len = Some verb.Len
verb_alone word.ToReadonly = Some verb.ToReadonly
verb_alone word.Enter = Some verb.Enter
verb_alone word.Exit = Some verb.Exit
verb_alone word.ToContiguous = Some verb.ToContiguous
verb_alone word.ToList = Some verb.ToList
verb_alone word.Hash = Some verb.Hash
verb_alone word.Repr = Some verb.Repr
verb_alone word.Iter = Some verb.Iter
verb_alone word.Next = Some verb.Next
verb_alone word.LengthHint = Some verb.LengthHint
verb_alone word.Hex = Some (verb.Hex None None)
verb_alone word.Pop = Some (verb.Pop None)
verb_alone word.Clear = Some verb.Clear
verb_alone word.Reverse = Some verb.Reverse
verb_alone word.Take = Some verb.Take
verb_alone word.Copy = Some verb.Copy
verb_alone _ = None

-- the verbs with one value
abbrev pub verb_of_one : Word → Value → Option Verb
verb_of_one word.Get key = Some (verb.Get key)
verb_of_one word.Cast format = Some (verb.Cast format None)
verb_of_one word.ToBytes order = Some (verb.ToBytes (Some order))
verb_of_one word.SetState state = Some (verb.SetState state)
verb_of_one word.Contains item = Some (verb.Contains item)
verb_of_one word.Hex sep = Some (verb.Hex (Some sep) None)
verb_of_one word.Del key = Some (verb.Del key)
verb_of_one word.Append item = Some (verb.Append item)
verb_of_one word.Extend item = Some (verb.Extend item)
verb_of_one word.Pop index = Some (verb.Pop (Some index))
verb_of_one word.Remove item = Some (verb.Remove item)
verb_of_one word.IAdd item = Some (verb.IAdd item)
verb_of_one word.IMul count = Some (verb.IMul count)
verb_of_one _ _ = None

-- the verbs with two values
abbrev pub verb_of_two : Word → Value → Value → Option Verb
verb_of_two word.Set key item = Some (verb.Set key item)
verb_of_two word.Cast format shape = Some (verb.Cast format (Some shape))
verb_of_two word.CastF format shape = Some (verb.CastF format shape)
verb_of_two word.Range from to = Some (verb.Range from to)
verb_of_two word.Hex sep group = Some (verb.Hex (Some sep) (Some group))
verb_of_two word.Insert index item = Some (verb.Insert index item)
verb_of_two _ _ _ = None

-- a verb with values, by its word and the words of the values
abbrev pub verb_by_values : (List ℕ → Option ℕ) → Word → List (List ℕ) → Option Verb
verb_by_values name_in w [] = verb_alone w
verb_by_values name_in w (first ∷ []) = do
  a ← value_in name_in first
  verb_of_one w a
verb_by_values name_in w (first ∷ second ∷ []) = do
  a ← value_in name_in first
  b ← value_in name_in second
  verb_of_two w a b
verb_by_values _ _ _ = None

-- ---- verbs with other arguments

-- `prop`, by the name of the property
abbrev pub property_asked : List (List ℕ) → Option Verb
property_asked (name ∷ []) = do
  n ← property_in name
  Some (verb.Property n)
property_asked _ = None

-- `compare`, by its operator and the value on the other side
abbrev pub comparison_in : (List ℕ → Option ℕ) → List (List ℕ) → Option Verb
comparison_in name_in (operator ∷ other ∷ []) = do
  o ← operator_in operator
  v ← value_in name_in other
  Some (verb.Compare o v)
comparison_in _ _ = None

-- `init`, by its options
abbrev pub init_in : (List ℕ → Option ℕ) → List (List ℕ) → Option Verb
init_in name_in arguments = do
  options ← options_in name_in arguments
  Some (verb.Init options)

-- as many values as there are words, one each
abbrev pub values_in : (List ℕ → Option ℕ) → List (List ℕ) → Option (List Value)
values_in name_in words = each (value_in name_in) words

-- a call of a method, if the method takes so many arguments
abbrev pub call_of : MethodName → List Value → Option Verb
call_of name args = if takes name (length args) then Some (verb.Call (record { name = name; args = args })) else None

-- a method by its name, and its arguments
abbrev pub call_in : (List ℕ → Option ℕ) → List (List ℕ) → Option Verb
call_in name_in [] = None
call_in name_in (name ∷ arguments) = do
  method ← method_in name
  args ← values_in name_in arguments
  call_of method args

-- A line `WORD hN ARGS`, by its word and its arguments.
abbrev pub verb_in : (List ℕ → Option ℕ) → Word → List (List ℕ) → Option Verb
verb_in name_in word.Property arguments = property_asked arguments
verb_in name_in word.Compare arguments = comparison_in name_in arguments
verb_in name_in word.Init arguments = init_in name_in arguments
verb_in name_in word.Call arguments = call_in name_in arguments
verb_in name_in w arguments = verb_by_values name_in w arguments

-- the word that a verb is written with
abbrev pub word_of : Verb → Word
word_of verb.View = word.View
word_of (verb.Get key) = word.Get
word_of (verb.Set key item) = word.Set
word_of (verb.Cast format shape) = word.Cast
word_of (verb.CastF format shape) = word.CastF
word_of (verb.ToBytes order) = word.ToBytes
word_of verb.Release = word.Release
word_of verb.Len = word.Len
word_of (verb.Property name) = word.Property
word_of verb.ToReadonly = word.ToReadonly
word_of (verb.Range from to) = word.Range
word_of verb.Enter = word.Enter
word_of verb.Exit = word.Exit
word_of verb.ToContiguous = word.ToContiguous
word_of verb.ToList = word.ToList
word_of (verb.Compare operator other) = word.Compare
word_of verb.Hash = word.Hash
word_of verb.Repr = word.Repr
word_of verb.Iter = word.Iter
word_of verb.Next = word.Next
word_of verb.LengthHint = word.LengthHint
word_of (verb.SetState state) = word.SetState
word_of (verb.Contains item) = word.Contains
word_of (verb.Hex sep group) = word.Hex
word_of (verb.Call method) = word.Call
word_of (verb.Del key) = word.Del
word_of (verb.Append item) = word.Append
word_of (verb.Extend item) = word.Extend
word_of (verb.Insert index item) = word.Insert
word_of (verb.Pop index) = word.Pop
word_of (verb.Remove item) = word.Remove
word_of verb.Clear = word.Clear
word_of verb.Reverse = word.Reverse
word_of (verb.IAdd item) = word.IAdd
word_of (verb.IMul count) = word.IMul
word_of (verb.Init options) = word.Init
word_of verb.Take = word.Take
word_of verb.Copy = word.Copy

-- the values that options are written with, each of which comes only after the one before
abbrev pub written_values : (ℕ → List ℕ) → Option Value → Option Value → Option Value → List (List ℕ)
written_values name (Some source) None _ = written_value name source ∷ []
written_values name (Some source) (Some encoding) None = written_value name source ∷ written_value name encoding ∷ []
written_values name (Some source) (Some encoding) (Some errors) = written_value name source ∷ written_value name encoding ∷ written_value name errors ∷ []
written_values name None _ _ = []

abbrev pub written_options : (ℕ → List ℕ) → ByteInnerNewOptions → List (List ℕ)
written_options name options = written_values name options.source options.encoding options.errors

-- the words that a call is written with
abbrev pub written_call : (ℕ → List ℕ) → MethodCall → List (List ℕ)
written_call name method = written_method method.name ∷ map (written_value name) method.args

-- the values of a verb without other arguments
abbrev pub values_of : Verb → List Value
values_of (verb.Get key) = key ∷ []
values_of (verb.Set key item) = key ∷ item ∷ []
values_of (verb.Cast format None) = format ∷ []
values_of (verb.Cast format (Some shape)) = format ∷ shape ∷ []
values_of (verb.CastF format shape) = format ∷ shape ∷ []
values_of (verb.ToBytes (Some order)) = order ∷ []
values_of (verb.Range from to) = from ∷ to ∷ []
values_of (verb.SetState state) = state ∷ []
values_of (verb.Contains item) = item ∷ []
values_of (verb.Hex (Some sep) None) = sep ∷ []
values_of (verb.Hex (Some sep) (Some group)) = sep ∷ group ∷ []
values_of (verb.Del key) = key ∷ []
values_of (verb.Append item) = item ∷ []
values_of (verb.Extend item) = item ∷ []
values_of (verb.Insert index item) = index ∷ item ∷ []
values_of (verb.Pop (Some index)) = index ∷ []
values_of (verb.Remove item) = item ∷ []
values_of (verb.IAdd item) = item ∷ []
values_of (verb.IMul count) = count ∷ []
values_of _ = []

-- the words that a verb is written with, after the subject
abbrev pub written_arguments : (ℕ → List ℕ) → Verb → List (List ℕ)
written_arguments name (verb.Property property) = written_name property ∷ []
written_arguments name (verb.Compare operator other) = written_operator operator ∷ written_value name other ∷ []
written_arguments name (verb.Init options) = written_options name options
written_arguments name (verb.Call method) = written_call name method
written_arguments name v = map (written_value name) (values_of v)

-- what a line asks of a handle
abbrev pub asked : ℕ → Option Verb → Option Command
asked subject asks = do
  v ← asks
  Some (command.Do subject v)

-- `new KIND` and the options
abbrev pub new_in : (List ℕ → Option ℕ) → List (List ℕ) → Option Command
new_in name_in [] = None
new_in name_in (kind ∷ arguments) = do
  k ← kind_in kind
  options ← options_in name_in arguments
  Some (command.New k options)

abbrev pub do_in : (List ℕ → Option ℕ) → Word → List (List ℕ) → Option Command
do_in name_in w [] = None
do_in name_in w (subject ∷ arguments) = do
  handle ← name_in subject
  v ← verb_in name_in w arguments
  Some (command.Do handle v)

abbrev pub command_by : (List ℕ → Option ℕ) → Option Word → List (List ℕ) → Option Command
command_by name_in None rest = None
command_by name_in (Some word.New) rest = new_in name_in rest
command_by name_in (Some w) rest = do_in name_in w rest

abbrev pub command_of_words : (List ℕ → Option ℕ) → List (List ℕ) → Option Command
command_of_words name_in [] = None
command_of_words name_in (first ∷ rest) = command_by name_in (word_in first) rest

-- the one command that a line spells, or none
unfoldable pub command_in : (List ℕ → Option ℕ) → List ℕ → Option Command
command_in name_in line = command_of_words name_in (words line)

-- the words that a command is written with
abbrev pub written_words : (ℕ → List ℕ) → Command → List (List ℕ)
written_words name (command.New kind options) = written_word word.New ∷ written_kind kind ∷ written_options name options
written_words name (command.Do handle v) = written_word (word_of v) ∷ name handle ∷ written_arguments name v

-- how a command is written
abbrev pub written_command : (ℕ → List ℕ) → Command → List ℕ
written_command name c = join_with_byte 32 (written_words name c)

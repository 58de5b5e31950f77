-- A command that was written is read back.
use Rattle.std.proofs.Common.{◌≡◌, ℕ, ◌<◌, ◌^◌, List, [], ◌∷◌, ◌++◌, map, Bool, true, false, cond, Option, Some, None, refl, ◌∙◌, ap, arith, tests}
use Rattle.std.specs.List.{join_with_byte, onto_first, list_all, AllByRecursion}
use Rattle.pybuf_lemmas.proofs.Numbers.{is_unbroken, unbroken_is_no_blank}
use Rattle.pybuf_lemmas.proofs.Lists.{first_of_all, rest_of_all}
use Rattle.pybuf_line.specs.Facts.{each_text_byte}
use Rattle.pybuf_value.specs.declared.values.Scalar.{Scalar}
use Rattle.pybuf_value.specs.declared.values.Scalar.TheVariants as scalar
use Rattle.pybuf_value.specs.declared.values.PySlice.{PySlice}
use Rattle.pybuf_value.specs.declared.values.Value.{Value}
use Rattle.pybuf_value.specs.declared.values.Value.TheVariants as value
use Rattle.pybuf_value.specs.declared.values.CompareOp.{CompareOp}
use Rattle.pybuf_value.specs.declared.values.CompareOp.TheVariants as op
use Rattle.pybuf_command.specs.declared.kinds.ExporterKind.{ExporterKind}
use Rattle.pybuf_command.specs.declared.kinds.ExporterKind.TheVariants as kind
use Rattle.pybuf_command.specs.declared.commands.PropertyName.{PropertyName}
use Rattle.pybuf_command.specs.declared.commands.PropertyName.TheVariants as property
use Rattle.pybuf_command.specs.declared.commands.Verb.{Verb}
use Rattle.pybuf_command.specs.declared.commands.Verb.TheVariants as verb
use Rattle.pybuf_command.specs.declared.options.ByteInnerNewOptions.{ByteInnerNewOptions}
use Rattle.pybuf_command.specs.declared.methods.MethodName.{MethodName}
use Rattle.pybuf_command.specs.declared.methods.MethodName.TheVariants as name
use Rattle.pybuf_command.specs.declared.methods.MethodCall.{MethodCall}
use Rattle.pybuf_command.specs.declared.worlds.Command.TheVariants as command
use Rattle.pybuf_line.specs.declared.words.Word.{Word}
use Rattle.pybuf_line.specs.declared.words.Word.TheVariants as word
use Rattle.pybuf_line.specs.Parts.{parts_at}
use Rattle.pybuf_line.specs.Words.{words, word_in, written_word, written_kind, written_operator, written_name}
use Rattle.pybuf_line.specs.Methods.{written_method}
use Rattle.pybuf_value.specs.Spelling.{handle_text}
use Rattle.pybuf_value.specs.Choosing.{◌>>=◌}
use Rattle.pybuf_line.specs.Scalars.{handle_in, is_text_byte, written_scalar}
use Rattle.pybuf_line.specs.Spellings.{written_slice, written_parts, written_value}
use Rattle.pybuf_line.specs.Commands.{options_in, verb_alone, verb_of_one, verb_of_two, verb_by_values, verb_in, word_of, written_values, written_options, values_in, call_in, written_call, values_of, written_arguments, asked, command_of_words, command_in, written_words}
use Rattle.pybuf_line.specs.Laws.{IsSpelled, IsSpelledSlice, IsSpelledValue, AreSpelledValues, AreSpelledOptions, IsSpelledCall, IsSpelledVerb, CommandsReadBack}
use Rattle.pybuf_line.proofs.NameLaws.{kinds_read, operators_read, properties_read, methods_read}
use Rattle.pybuf_line.proofs.SpellingLaws.{handle_read}
use Rattle.pybuf_line.proofs.ValueLaws.{is_free, IsFree, part_free, values_read}

abbrev IsUnbroken : List ℕ → Type 0
IsUnbroken text = list_all is_unbroken text ≡ true

byte_on : (x : ℕ) (text : List ℕ) → is_unbroken x ≡ true → parts_at 32 (x ∷ text) ≡ onto_first x (parts_at 32 text)
byte_on x text h = ap (λ cut. cond cut ([] ∷ parts_at 32 text) (onto_first x (parts_at 32 text))) (unbroken_is_no_blank x h)

blank_cuts : (a rest : List ℕ) → IsUnbroken a → parts_at 32 (a ++ 32 ∷ rest) ≡ a ∷ parts_at 32 rest
blank_cuts [] rest h = refl
blank_cuts (x ∷ a) rest h =
    byte_on x (a ++ 32 ∷ rest) (first_of_all is_unbroken x a h) ∙ ap (onto_first x) (blank_cuts a rest (rest_of_all is_unbroken x a h))

nothing_cuts : (a : List ℕ) → IsUnbroken a → parts_at 32 a ≡ a ∷ []
nothing_cuts [] h = refl
nothing_cuts (x ∷ a) h = byte_on x a (first_of_all is_unbroken x a h) ∙ ap (onto_first x) (nothing_cuts a (rest_of_all is_unbroken x a h))

words_of : (a : List ℕ) (more : List (List ℕ)) → AllByRecursion IsUnbroken (a ∷ more) → words (join_with_byte 32 (a ∷ more)) ≡ a ∷ more
words_of a [] h = nothing_cuts a h.0
words_of a (b ∷ more) h = blank_cuts a (join_with_byte 32 (b ∷ more)) h.0 ∙ ap (λ others. a ∷ others) (words_of b more h.1)

-- The text of a value has no blank.
both : (xs ys : List ℕ) → IsUnbroken xs → IsUnbroken ys → IsUnbroken (xs ++ ys)
both [] ys h k = k
both (x ∷ xs) ys h k = rw (first_of_all is_unbroken x xs h, both xs ys (rest_of_all is_unbroken x xs h) k) refl

all_of : (p : ℕ → Bool) → ((b : ℕ) → p b ≡ true → is_unbroken b ≡ true) → (text : List ℕ) → list_all p text ≡ true → IsUnbroken text
all_of p each [] h = refl
all_of p each (x ∷ xs) h = rw (each x (first_of_all p x xs h), all_of p each xs (rest_of_all p x xs h)) refl

free_byte : (b : ℕ) → is_free b ≡ true → is_unbroken b ≡ true
free_byte b h = grind (arith, tests)

text_byte : (b : ℕ) → is_text_byte b ≡ true → is_unbroken b ≡ true
text_byte b h = grind (arith, tests)

free : (text : List ℕ) → IsFree text → IsUnbroken text
free text h = all_of is_free free_byte text h

scalar_unbroken : (s : Scalar) → IsSpelled s → IsUnbroken (written_scalar handle_text s)
scalar_unbroken scalar.None h = refl
scalar_unbroken (scalar.Bool true) h = refl
scalar_unbroken (scalar.Bool false) h = refl
scalar_unbroken (scalar.Int number) h = free (written_scalar handle_text (scalar.Int number)) (part_free (scalar.Int number) h)
scalar_unbroken (scalar.Text text) h = both text (39 ∷ []) (all_of is_text_byte text_byte text (each_text_byte text h)) refl
scalar_unbroken (scalar.Bytes bytes) h = free (written_scalar handle_text (scalar.Bytes bytes)) (part_free (scalar.Bytes bytes) h)
scalar_unbroken scalar.Ellipsis h = refl
scalar_unbroken (scalar.Handle handle) h = free (written_scalar handle_text (scalar.Handle handle)) (part_free (scalar.Handle handle) h)

slice_unbroken : (s : PySlice) → IsSpelledSlice s → IsUnbroken (written_slice handle_text s)
slice_unbroken s h =
    both (written_scalar handle_text s.start) (58 ∷ written_scalar handle_text s.stop ++ 58 ∷ written_scalar handle_text s.step)
    (free (written_scalar handle_text s.start) (part_free s.start h.0))
    (both (written_scalar handle_text s.stop) (58 ∷ written_scalar handle_text s.step) (free (written_scalar handle_text s.stop) (part_free s.stop h.1))
    (free (written_scalar handle_text s.step) (part_free s.step h.2)))

parts_unbroken : {A : Type 0} (text : A → List ℕ) (P : A → Type 0) → ((a : A) → P a → IsUnbroken (text a)) → (all : List A) →
    AllByRecursion P all → IsUnbroken (written_parts text all)
parts_unbroken text P each [] h = refl
parts_unbroken text P each (a ∷ []) h = each a h.0
parts_unbroken text P each (a ∷ b ∷ more) h =
    both (text a) (44 ∷ written_parts text (b ∷ more)) (each a h.0) (parts_unbroken text P each (b ∷ more) h.1)

value_unbroken : (v : Value) → IsSpelledValue v → IsUnbroken (written_value handle_text v)
value_unbroken (value.One one) h = scalar_unbroken one h
value_unbroken (value.Slice slice) h = slice_unbroken slice h
value_unbroken (value.Tuple parts) h =
    both (written_parts (written_scalar handle_text) parts) (41 ∷ []) (parts_unbroken (written_scalar handle_text) IsSpelled scalar_unbroken parts h) refl
value_unbroken (value.List parts) h =
    both (written_parts (written_scalar handle_text) parts) (93 ∷ []) (parts_unbroken (written_scalar handle_text) IsSpelled scalar_unbroken parts h) refl
value_unbroken (value.Slices slices) h =
    both (written_parts (written_slice handle_text) slices) (41 ∷ []) (parts_unbroken (written_slice handle_text) IsSpelledSlice slice_unbroken slices h.1) refl

name_unbroken : (p : PropertyName) → IsUnbroken (written_name p)
name_unbroken property.Exports = refl
name_unbroken _ = refl

operator_unbroken : (o : CompareOp) → IsUnbroken (written_operator o)
operator_unbroken op.Eq = refl
operator_unbroken _ = refl

word_unbroken : (w : Word) → IsUnbroken (written_word w)
word_unbroken word.New = refl
word_unbroken _ = refl

-- options
options_unbroken : (source encoding errors : Option Value) → AreSpelledValues source encoding errors → AllByRecursion IsUnbroken (written_values handle_text source encoding errors)
options_unbroken None None None h = tt
options_unbroken (Some source) None None h = (value_unbroken source h, tt)
options_unbroken (Some source) (Some encoding) None h = (value_unbroken source h.0, (value_unbroken encoding h.1, tt))
options_unbroken (Some source) (Some encoding) (Some errors) h = (value_unbroken source h.0, (value_unbroken encoding h.1, (value_unbroken errors h.2, tt)))
options_unbroken None None (Some errors) h = absurd h
options_unbroken None (Some encoding) errors h = absurd h
options_unbroken (Some source) None (Some errors) h = absurd h

options_read : (source encoding errors : Option Value) → AreSpelledValues source encoding errors
    → options_in handle_in (written_values handle_text source encoding errors) ≡ Some (record { source = source; encoding = encoding; errors = errors })
options_read None None None h = refl
options_read (Some source) None None h = rw (values_read source h) refl
options_read (Some source) (Some encoding) None h = rw (values_read source h.0, values_read encoding h.1) refl
options_read (Some source) (Some encoding) (Some errors) h = rw (values_read source h.0, values_read encoding h.1, values_read errors h.2) refl
options_read None None (Some errors) h = absurd h
options_read None (Some encoding) errors h = absurd h
options_read (Some source) None (Some errors) h = absurd h

-- a call of a method
method_unbroken : (m : MethodName) → IsUnbroken (written_method m)
method_unbroken name.Add = refl
method_unbroken _ = refl

values_unbroken : (values : List Value) → AllByRecursion IsSpelledValue values → AllByRecursion IsUnbroken (map (written_value handle_text) values)
values_unbroken [] h = tt
values_unbroken (v ∷ more) h = (value_unbroken v h.0, values_unbroken more h.1)

each_value_read : (values : List Value) → AllByRecursion IsSpelledValue values → values_in handle_in (map (written_value handle_text) values) ≡ Some values
each_value_read [] h = refl
each_value_read (v ∷ more) h = rw (values_read v h.0, each_value_read more h.1) refl

call_read : (c : MethodCall) → IsSpelledCall c → call_in handle_in (written_call handle_text c) ≡ Some (verb.Call c)
call_read c h = rw (methods_read.read c.name tt, each_value_read c.args h.1, h.0) refl

-- a command of a handle
arguments_unbroken : (v : Verb) → IsSpelledVerb v → AllByRecursion IsUnbroken (written_arguments handle_text v)
arguments_unbroken (verb.Property name) h = (name_unbroken name, tt)
arguments_unbroken (verb.Compare operator other) h = (operator_unbroken operator, (value_unbroken other h, tt))
arguments_unbroken (verb.Hex None (Some group)) h = absurd h
arguments_unbroken (verb.Init options) h = options_unbroken options.source options.encoding options.errors h
arguments_unbroken (verb.Call method) h = (method_unbroken method.name, values_unbroken method.args h.1)
arguments_unbroken v h = values_unbroken (values_of v) h

handle_unbroken : (n : ℕ) → n < 2 ^ 64 → IsUnbroken (handle_text n)
handle_unbroken n h = free (handle_text n) (part_free (scalar.Handle n) h)

-- the verb that a word and values make
abbrev verb_with : Word → List Value → Option Verb
verb_with w [] = verb_alone w
verb_with w (first ∷ []) = verb_of_one w first
verb_with w (first ∷ second ∷ []) = verb_of_two w first second
verb_with w (first ∷ second ∷ third ∷ more) = None

by_values_read : (w : Word) (values : List Value) → AllByRecursion IsSpelledValue values →
    verb_by_values handle_in w (map (written_value handle_text) values) ≡ verb_with w values
by_values_read w [] h = refl
by_values_read w (first ∷ []) h = rw (values_read first h.0) refl
by_values_read w (first ∷ second ∷ []) h = rw (values_read first h.0, values_read second h.1.0) refl
by_values_read w (first ∷ second ∷ third ∷ more) h = refl

verb_read : (v : Verb) → IsSpelledVerb v → verb_in handle_in (word_of v) (written_arguments handle_text v) ≡ Some v
verb_read (verb.Property name) h = rw (properties_read.read name tt) refl
verb_read (verb.Compare operator other) h = rw (operators_read.read operator tt, values_read other h) refl
verb_read (verb.Init options) h = rw (options_read options.source options.encoding options.errors h) refl
verb_read (verb.Call method) h = call_read method h
verb_read (verb.Cast format None) h = by_values_read word.Cast (format ∷ []) h
verb_read (verb.ToBytes None) h = by_values_read word.ToBytes [] h
verb_read (verb.Pop None) h = by_values_read word.Pop [] h
verb_read (verb.Hex None None) h = by_values_read word.Hex [] h
verb_read (verb.Hex None (Some group)) h = absurd h
verb_read (verb.Hex (Some sep) None) h = by_values_read word.Hex (sep ∷ []) h
verb_read v h = by_values_read (word_of v) (values_of v) h

-- what the line asks of a handle that was read
asked_of : (handle : Option ℕ) (asks : Option Verb) (n : ℕ) (v : Verb) → handle ≡ Some n → asks ≡ Some v →
    (handle >>= λ subject. asked subject asks) ≡ Some (command.Do n v)
asked_of handle asks n v h k = rw (h, k) refl

do_read : (n : ℕ) (v : Verb) → n < 2 ^ 64 → IsSpelledVerb v →
    command_of_words handle_in (written_words handle_text (command.Do n v)) ≡ Some (command.Do n v)
unfolding word_in
do_read n verb.View h k =
    asked_of (handle_in (handle_text n)) (verb_in handle_in (word_of verb.View) (written_arguments handle_text verb.View)) n verb.View (handle_read n h) (verb_read verb.View k)
do_read n v h k =
    asked_of (handle_in (handle_text n)) (verb_in handle_in (word_of v) (written_arguments handle_text v)) n v (handle_read n h) (verb_read v k)

-- a new exporter
new_read : (k : ExporterKind) (options : ByteInnerNewOptions) → AreSpelledOptions options →
    command_of_words handle_in (written_words handle_text (command.New k options)) ≡ Some (command.New k options)
unfolding word_in
new_read k options h = rw (kinds_read.read k tt, options_read options.source options.encoding options.errors h) refl

kind_unbroken : (k : ExporterKind) → IsUnbroken (written_kind k)
kind_unbroken kind.Bytes = refl
kind_unbroken kind.ByteArray = refl
kind_unbroken (kind.Vector false) = refl
kind_unbroken (kind.Vector true) = refl

pub commands_read : CommandsReadBack
unfolding command_in
commands_read (command.New k options) h =
    ap (command_of_words handle_in)
    (words_of (written_word word.New) (written_kind k ∷ written_options handle_text options)
    (refl, (kind_unbroken k, options_unbroken options.source options.encoding options.errors h)))
    ∙ new_read k options h
commands_read (command.Do n v) h =
    ap (command_of_words handle_in)
    (words_of (written_word (word_of v)) (handle_text n ∷ written_arguments handle_text v)
    (word_unbroken (word_of v), (handle_unbroken n h.0, arguments_unbroken v h.1)))
    ∙ do_read n v h.0 h.1

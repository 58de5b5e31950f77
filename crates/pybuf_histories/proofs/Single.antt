-- The text of a command has no line feed.
use Rattle.std.proofs.Common.{◌≡◌, ℕ, ◌/◌, ◌%◌, ◌-◌, ◌^◌, List, [], ◌∷◌, ◌++◌, length, map, Bool, true, false, cond, ◌==◌, Option, Some, None, refl, arith, tests, ℤ, codes, decimal}
use Rattle.std.specs.List.{list_all, join_with_byte, AllByRecursion}
use Rattle.std.specs.Fmt.{signed_decimal}
use Rattle.pybuf_lemmas.proofs.Lists.{hex_digit_is_no_line_end, first_of_all, rest_of_all}
use Rattle.pybuf_line.specs.Facts.{one_line_both, spelled_part}
use Rattle.hex.specs.Hex.{encode_with, encode_lower}
use Rattle.pybuf_value.specs.declared.values.Scalar.{Scalar}
use Rattle.pybuf_value.specs.declared.values.Scalar.TheVariants as scalar
use Rattle.pybuf_value.specs.declared.values.PySlice.{PySlice}
use Rattle.pybuf_value.specs.declared.values.Value.{Value}
use Rattle.pybuf_value.specs.declared.values.Value.TheVariants as value
use Rattle.pybuf_value.specs.declared.values.Item.TheVariants as item
use Rattle.pybuf_value.specs.declared.values.CompareOp.{CompareOp}
use Rattle.pybuf_value.specs.declared.values.CompareOp.TheVariants as op
use Rattle.pybuf_value.specs.Spelling.{bytes_text, handle_text}
use Rattle.pybuf_command.specs.declared.kinds.Subject.{Subject}
use Rattle.pybuf_command.specs.declared.kinds.Subject.TheVariants as subject
use Rattle.pybuf_command.specs.declared.loans.Loan.{Loan}
use Rattle.pybuf_command.specs.declared.loans.Loan.TheVariants as loan
use Rattle.pybuf_command.specs.Loans.{loan_of}
use Rattle.pybuf_command.specs.declared.commands.PropertyName.{PropertyName}
use Rattle.pybuf_command.specs.declared.commands.PropertyName.TheVariants as property
use Rattle.pybuf_command.specs.declared.commands.Verb.{Verb}
use Rattle.pybuf_command.specs.declared.commands.Verb.TheVariants as verb
use Rattle.pybuf_command.specs.declared.commands.LocalCommand.{LocalCommand}
use Rattle.pybuf_command.specs.declared.methods.MethodName.{MethodName}
use Rattle.pybuf_command.specs.declared.methods.MethodName.TheVariants as method
use Rattle.pybuf_command.specs.declared.worlds.Reply.TheVariants as reply
use Rattle.pybuf_line.specs.declared.words.Word.{Word}
use Rattle.pybuf_line.specs.declared.words.Word.TheVariants as word
use Rattle.pybuf_line.specs.Words.{written_word, written_operator, written_name}
use Rattle.pybuf_line.specs.Methods.{written_method}
use Rattle.pybuf_line.specs.Scalars.{is_text_byte, is_text, written_scalar}
use Rattle.pybuf_line.specs.Spellings.{written_slice, written_parts, written_value}
use Rattle.pybuf_line.specs.Commands.{word_of, values_of, written_values, written_arguments}
use Rattle.pybuf_line.specs.Laws.{IsOneLine, RepliesAreSingle, IsSpelled, IsSpelledSlice, IsSpelledValue, AreSpelledValues, IsSpelledVerb}
use Rattle.pybuf_histories.specs.Names.{view_name, iterator_name, subject_text, loan_text, loan_text_if_lent, name_of}
use Rattle.pybuf_histories.specs.Commands.{command_text}

-- ---- what the line of a reply has, by the law of these lines

pub decimal_single : RepliesAreSingle handle_text → (n : ℕ) → IsOneLine (decimal n)
decimal_single law n = law (reply.Handle n) (λ text h. cc)

pub bytes_single : RepliesAreSingle handle_text → (bytes : List ℕ) → IsOneLine (bytes_text bytes)
bytes_single law bytes = law (reply.Bytes bytes) (λ text h. cc)

number_single : RepliesAreSingle handle_text → (n : ℤ) → IsOneLine (signed_decimal n)
number_single law n = law (reply.Item (item.One (scalar.Int n))) (λ text h. cc)

-- ---- digits

pub digits_single : (bytes : List ℕ) → IsOneLine (encode_lower bytes)
unfolding encode_with
digits_single [] = refl
digits_single (b ∷ bytes) = rw (hex_digit_is_no_line_end (b / 16), hex_digit_is_no_line_end (b % 16)) (digits_single bytes)

-- ---- names

if_single : (greatest : Bool) (name : List ℕ) → IsOneLine name → IsOneLine (cond greatest (codes "none") name)
if_single true name h = refl
if_single false name h = h

pub subject_single : RepliesAreSingle handle_text → (s : Subject) → IsOneLine (subject_text s)
subject_single law subject.Own = refl
subject_single law (subject.View k) = if_single (k == 2 ^ 64 - 1) (view_name k) (decimal_single law k)
subject_single law (subject.Iter k) = if_single (k == 2 ^ 64 - 1) (iterator_name k) (decimal_single law k)

loan_single : RepliesAreSingle handle_text → (l : Loan) → IsOneLine (loan_text l)
loan_single law loan.Own = refl
loan_single law (loan.View k) = subject_single law (subject.View k)
loan_single law (loan.Iter k) = subject_single law (subject.Iter k)
loan_single law (loan.Other snap) = digits_single snap.content
loan_single law loan.Missing = refl

lent_single : RepliesAreSingle handle_text → (l : Option Loan) → IsOneLine (loan_text_if_lent l)
lent_single law (Some l) = loan_single law l
lent_single law None = refl

-- ---- values

text_byte : (b : ℕ) → is_text_byte b ≡ true → (b == 10) ≡ false
text_byte b h = grind (arith, tests)

all_text_bytes : (text : List ℕ) → list_all is_text_byte text ≡ true → IsOneLine text
all_text_bytes [] h = refl
all_text_bytes (b ∷ text) h = rw (text_byte b (first_of_all is_text_byte b text h)) (all_text_bytes text (rest_of_all is_text_byte b text h))

not_empty : (empty all : Bool) → cond empty false all ≡ true → all ≡ true
not_empty true all h = cc
not_empty false all h = h

text_single : (text : List ℕ) → is_text text ≡ true → IsOneLine text
text_single text h = all_text_bytes text (not_empty (length text == 0) (list_all is_text_byte text) h)

scalar_single : RepliesAreSingle handle_text → (loans : List (ℕ × Loan)) (s : Scalar) → IsSpelled s → IsOneLine (written_scalar (name_of loans) s)
scalar_single law loans scalar.None h = refl
scalar_single law loans (scalar.Bool true) h = refl
scalar_single law loans (scalar.Bool false) h = refl
scalar_single law loans (scalar.Int number) h = number_single law number
scalar_single law loans (scalar.Text text) h = one_line_both text (39 ∷ []) (text_single text h) refl
scalar_single law loans (scalar.Bytes bytes) h = digits_single bytes
scalar_single law loans scalar.Ellipsis h = refl
scalar_single law loans (scalar.Handle handle) h = lent_single law (loan_of loans handle)

slice_single : RepliesAreSingle handle_text → (loans : List (ℕ × Loan)) (s : PySlice) → IsSpelledSlice s → IsOneLine (written_slice (name_of loans) s)
slice_single law loans s h =
    let written = written_scalar (name_of loans) in
    one_line_both (written s.start) (58 ∷ written s.stop ++ 58 ∷ written s.step) (scalar_single law loans s.start (spelled_part s.start h.0))
    (one_line_both (written s.stop) (58 ∷ written s.step) (scalar_single law loans s.stop (spelled_part s.stop h.1))
    (scalar_single law loans s.step (spelled_part s.step h.2)))

parts_single : {A : Type 0} (text : A → List ℕ) (P : A → Type 0) → ((a : A) → P a → IsOneLine (text a)) → (all : List A) →
    AllByRecursion P all → IsOneLine (written_parts text all)
parts_single text P each [] h = refl
parts_single text P each (a ∷ []) h = each a h.0
parts_single text P each (a ∷ b ∷ more) h =
    one_line_both (text a) (44 ∷ written_parts text (b ∷ more)) (each a h.0) (parts_single text P each (b ∷ more) h.1)

value_single : RepliesAreSingle handle_text → (loans : List (ℕ × Loan)) (v : Value) → IsSpelledValue v → IsOneLine (written_value (name_of loans) v)
value_single law loans (value.One one) h = scalar_single law loans one h
value_single law loans (value.Slice slice) h = slice_single law loans slice h
value_single law loans (value.Tuple parts) h =
    one_line_both (written_parts (written_scalar (name_of loans)) parts) (41 ∷ [])
    (parts_single (written_scalar (name_of loans)) IsSpelled (scalar_single law loans) parts h) refl
value_single law loans (value.List parts) h =
    one_line_both (written_parts (written_scalar (name_of loans)) parts) (93 ∷ [])
    (parts_single (written_scalar (name_of loans)) IsSpelled (scalar_single law loans) parts h) refl
value_single law loans (value.Slices slices) h =
    one_line_both (written_parts (written_slice (name_of loans)) slices) (41 ∷ [])
    (parts_single (written_slice (name_of loans)) IsSpelledSlice (slice_single law loans) slices h.1) refl

values_single : RepliesAreSingle handle_text → (loans : List (ℕ × Loan)) (values : List Value) → AllByRecursion IsSpelledValue values →
    AllByRecursion IsOneLine (map (written_value (name_of loans)) values)
values_single law loans [] h = tt
values_single law loans (v ∷ values) h = (value_single law loans v h.0, values_single law loans values h.1)

-- ---- words

name_single : (p : PropertyName) → IsOneLine (written_name p)
name_single property.Exports = refl
name_single _ = refl

operator_single : (o : CompareOp) → IsOneLine (written_operator o)
operator_single op.Eq = refl
operator_single _ = refl

word_single : (w : Word) → IsOneLine (written_word w)
word_single word.New = refl
word_single _ = refl

method_single : (m : MethodName) → IsOneLine (written_method m)
method_single method.Add = refl
method_single _ = refl

options_single : RepliesAreSingle handle_text → (loans : List (ℕ × Loan)) (source encoding errors : Option Value) → AreSpelledValues source encoding errors →
    AllByRecursion IsOneLine (written_values (name_of loans) source encoding errors)
options_single law loans None None None h = tt
options_single law loans (Some source) None None h = (value_single law loans source h, tt)
options_single law loans (Some source) (Some encoding) None h = (value_single law loans source h.0, (value_single law loans encoding h.1, tt))
options_single law loans (Some source) (Some encoding) (Some errors) h =
    (value_single law loans source h.0, (value_single law loans encoding h.1, (value_single law loans errors h.2, tt)))
options_single law loans None None (Some errors) h = absurd h
options_single law loans None (Some encoding) errors h = absurd h
options_single law loans (Some source) None (Some errors) h = absurd h

arguments_single : RepliesAreSingle handle_text → (loans : List (ℕ × Loan)) (v : Verb) → IsSpelledVerb v → AllByRecursion IsOneLine (written_arguments (name_of loans) v)
arguments_single law loans (verb.Property property) h = (name_single property, tt)
arguments_single law loans (verb.Compare operator other) h = (operator_single operator, (value_single law loans other h, tt))
arguments_single law loans (verb.Init options) h = options_single law loans options.source options.encoding options.errors h
arguments_single law loans (verb.Call call) h = (method_single call.name, values_single law loans call.args h.1)
arguments_single law loans (verb.Hex None None) h = tt
arguments_single law loans (verb.Hex None (Some group)) h = absurd h
arguments_single law loans (verb.Hex (Some sep) None) h = values_single law loans (sep ∷ []) h
arguments_single law loans (verb.Hex (Some sep) (Some group)) h = values_single law loans (sep ∷ group ∷ []) h
arguments_single law loans v h = values_single law loans (values_of v) h

joined_single : (words : List (List ℕ)) → AllByRecursion IsOneLine words → IsOneLine (join_with_byte 32 words)
joined_single [] h = refl
joined_single (word ∷ []) h = h.0
joined_single (word ∷ next ∷ more) h = one_line_both word (32 ∷ join_with_byte 32 (next ∷ more)) h.0 (joined_single (next ∷ more) h.1)

pub command_single : RepliesAreSingle handle_text → (c : LocalCommand) → IsSpelledVerb c.verb → IsOneLine (command_text c)
unfolding command_text
command_single law c h =
    joined_single (written_word (word_of c.verb) ∷ subject_text c.subject ∷ written_arguments (name_of c.loans) c.verb)
    (word_single (word_of c.verb), (subject_single law c.subject, arguments_single law c.loans c.verb h))

-- A line of a session that was written is read back.
use Rattle.std.proofs.Common.{◌≡◌, ℕ, zero, suc, ◌/◌, ◌%◌, ◌<◌, ◌≤◌, ◌^◌, pos, negsuc, Bool, true, false, not, cond, ◌==◌, List, [], ◌∷◌, ◌++◌, length, map, slice_index, refl, sym, ◌∙◌, ap, subst, arith, tests, decimal, codes}
use Rattle.std.specs.Prelude.{Option, Some, None}
use Rattle.std.specs.List.{list_any, list_all, onto_first, flat_map, join_with_byte, AllByRecursion}
use Rattle.std.specs.Char.{is_ascii_digit, digit_value}
use Rattle.std.specs.Str.Parse.{AllDigits}
use Rattle.std.proofs.lemmas.List.{append_assoc, append-nil}
use Rattle.std.proofs.lemmas.Str.Parse.{digit_from_value}
use Rattle.std.proofs.lemmas.Fmt.{decimal_is_IsNumeral_wide, length-decimal-le}
use Rattle.pybuf_lemmas.proofs.Numbers.{value_below_ten_is_digit, unbroken_is_no_blank}
use Rattle.pybuf_lemmas.proofs.Lists.{first_of_all, rest_of_all}
use Rattle.pybuf_line.specs.Facts.{number_read, each_text_byte, spelled_part}
use Rattle.hex.specs.Hex.{lower_digits, encode_with, encode_lower}
use Rattle.pybuf_value.specs.Spelling.{handle_text}
use Rattle.pybuf_value.specs.declared.values.Scalar.{Scalar}
use Rattle.pybuf_value.specs.declared.values.Scalar.TheVariants as scalar
use Rattle.pybuf_value.specs.declared.values.PySlice.{PySlice}
use Rattle.pybuf_value.specs.declared.values.Value.{Value}
use Rattle.pybuf_value.specs.declared.values.Value.TheVariants as value
use Rattle.pybuf_value.specs.declared.values.CompareOp.{CompareOp}
use Rattle.pybuf_value.specs.declared.values.CompareOp.TheVariants as op
use Rattle.pybuf_command.specs.declared.kinds.Subject.{Subject}
use Rattle.pybuf_command.specs.declared.kinds.Subject.TheVariants as subject
use Rattle.pybuf_command.specs.declared.loans.Loan.{Loan}
use Rattle.pybuf_command.specs.declared.commands.PropertyName.{PropertyName}
use Rattle.pybuf_command.specs.declared.commands.PropertyName.TheVariants as property
use Rattle.pybuf_command.specs.declared.commands.LocalCommand.{LocalCommand}
use Rattle.pybuf_command.specs.declared.commands.Verb.{Verb}
use Rattle.pybuf_command.specs.declared.commands.Verb.TheVariants as verb
use Rattle.pybuf_command.specs.declared.methods.MethodName.{MethodName}
use Rattle.pybuf_command.specs.declared.methods.MethodName.TheVariants as name
use Rattle.pybuf_command.specs.declared.worlds.Command.TheVariants as command
use Rattle.pybuf_command.specs.Handles.{handles_in_scalar, handles_in_slice, handles_in, handles_in_option, handles_of}
use Rattle.pybuf_line.specs.declared.words.Word.{Word}
use Rattle.pybuf_line.specs.declared.words.Word.TheVariants as word
use Rattle.pybuf_line.specs.Words.{words, written_word, written_operator, written_name}
use Rattle.pybuf_line.specs.Methods.{written_method}
use Rattle.pybuf_line.specs.Scalars.{number_below, handle_in, is_text_byte, written_scalar}
use Rattle.pybuf_line.specs.Spellings.{written_slice, written_parts, written_value}
use Rattle.pybuf_line.specs.Commands.{word_of, values_of, written_values, written_arguments, written_command, command_in}
use Rattle.pybuf_line.specs.Laws.{IsSpelled, IsSpelledSlice, IsSpelledValue, AreSpelledValues, IsSpelledVerb, CommandsReadBack}
use Rattle.pybuf_sessions.specs.Names.{name_in, name_text}
use Rattle.pybuf_sessions.specs.Pieces.{is_mark, pieces, is_handle, handled_from, loans_from}
use Rattle.pybuf_sessions.specs.Asks.{session_in, local_command_in, rest_text, ask_of_words, ask_in}
use Rattle.pybuf_sessions.specs.Sessions.{opening_of, opening_in}
use Rattle.pybuf_sessions.specs.Laws.{IsCounted, AreNumbered, lent_by, written_line, SessionLinesReadBack, OpeningsReadBack}
use Rattle.pybuf_sessions.proofs.Blanks.{words_text}
use Rattle.pybuf_sessions.proofs.Renaming.{outcome, behind, IsBehind, next_number, Comes, nothing_comes, numbered_first, numbered_second, both_come, before_comes, joined_come, after_comes, is_plain, IsPlain, plain_whole, is_unquoted, quoted_whole, piece_comes, name_comes}

-- ---- digits

digit_plain : (c : ℕ) → digit_value c < 10 → is_plain c ≡ true
digit_plain c h = let r = digit_from_value c h in grind (arith, tests, r)

digits_plain : (ds : List ℕ) → AllDigits 10 ds → IsPlain ds
digits_plain [] h = refl
digits_plain (c ∷ cs) h = rw (digit_plain c h.0, digits_plain cs h.1) refl

decimal_read : (bound n : ℕ) → n < bound → bound ≤ 2 ^ 64 → number_below bound (decimal n) ≡ Some n
decimal_read bound n h most =
    let d = decimal_is_IsNumeral_wide n (omega (arith, h, most)) in
    number_read bound n (decimal n) d.0.0 d.0.1 d.1 h

decimal_plain : (n : ℕ) → n < 10 ^ 64 → IsPlain (decimal n)
decimal_plain n h = digits_plain (decimal n) (decimal_is_IsNumeral_wide n h).0.1

-- A digit begins neither a name nor a handle.
digit_no_name : (c : ℕ) (cs : List ℕ) → is_ascii_digit c ≡ true → name_in (c ∷ cs) ≡ None
digit_no_name c cs h = grind (arith, tests)

digit_no_handle : (c : ℕ) (cs : List ℕ) → is_ascii_digit c ≡ true → is_handle (c ∷ cs) ≡ false
digit_no_handle c cs h = grind (arith, tests)

digits_come : (named : ℕ → Subject) (n : ℕ) (ds : List ℕ) → 0 < length ds → AllDigits 10 ds → Comes named n [] ds ds
digits_come named n [] some all = absurd (omega (arith, some))
digits_come named n (c ∷ cs) some all =
    let d = value_below_ten_is_digit c all.0 in
    piece_comes named n (c ∷ cs) (plain_whole (c ∷ cs) (digits_plain (c ∷ cs) all)) (digit_no_handle c cs d) (digit_no_name c cs d)

decimal_comes : (named : ℕ → Subject) (n k : ℕ) → k < 10 ^ 64 → Comes named n [] (decimal k) (decimal k)
decimal_comes named n k h = let d = decimal_is_IsNumeral_wide k h in digits_come named n (decimal k) d.0.0 d.0.1

-- ---- names

counted_plain : (s : Subject) → IsCounted s → IsPlain (name_text s)
counted_plain subject.Own h = refl
counted_plain (subject.View k) h = decimal_plain k (omega (arith, h))
counted_plain (subject.Iter k) h = decimal_plain k (omega (arith, h))

pub counted_read : (s : Subject) → IsCounted s → name_in (name_text s) ≡ Some s
counted_read subject.Own h = refl
counted_read (subject.View k) h = rw (decimal_read (2 ^ 64) k h (omega arith)) refl
counted_read (subject.Iter k) h = rw (decimal_read (2 ^ 64) k h (omega arith)) refl

counted_no_handle : (s : Subject) → is_handle (name_text s) ≡ false
counted_no_handle subject.Own = refl
counted_no_handle (subject.View k) = refl
counted_no_handle (subject.Iter k) = refl

-- ---- values

-- a hexadecimal digit
digit_there : (xs : List ℕ) (k : ℕ) → IsPlain xs → is_plain (slice_index xs k) ≡ true
digit_there [] k h = refl
digit_there (x ∷ xs) zero h = first_of_all is_plain x xs h
digit_there (x ∷ xs) (suc k) h = digit_there xs k (rest_of_all is_plain x xs h)

encoded_plain : (bs : List ℕ) → IsPlain (encode_lower bs)
unfolding encode_with
encoded_plain [] = refl
encoded_plain (b ∷ bs) = rw (digit_there lower_digits (b / 16) refl, digit_there lower_digits (b % 16) refl, encoded_plain bs) refl

text_byte : (b : ℕ) → is_text_byte b ≡ true → is_unquoted b ≡ true
text_byte b h = grind (arith, tests)

text_unquoted : (t : List ℕ) → list_all is_text_byte t ≡ true → list_all is_unquoted t ≡ true
text_unquoted [] h = refl
text_unquoted (x ∷ xs) h = rw (text_byte x (first_of_all is_text_byte x xs h), text_unquoted xs (rest_of_all is_text_byte x xs h)) refl

abbrev pub name_of : (ℕ → Subject) → ℕ → List ℕ
name_of named = λ h. name_text (named h)

constant_comes : (named : ℕ → Subject) (n : ℕ) (text : List ℕ) → IsPlain text → is_handle text ≡ false → name_in text ≡ None → Comes named n [] text text
constant_comes named n text plain free none = piece_comes named n text (plain_whole text plain) free none

scalar_comes : (named : ℕ → Subject) → ((h : ℕ) → IsCounted (named h)) → (n : ℕ) (s : Scalar) → IsSpelled s → AreNumbered n (handles_in_scalar s) →
    Comes named n (handles_in_scalar s) (written_scalar (name_of named) s) (written_scalar handle_text s)
scalar_comes named all n scalar.None h k = constant_comes named n (codes "None") refl refl refl
scalar_comes named all n (scalar.Bool true) h k = constant_comes named n (codes "True") refl refl refl
scalar_comes named all n (scalar.Bool false) h k = constant_comes named n (codes "False") refl refl refl
scalar_comes named all n (scalar.Int (pos i)) h k = decimal_comes named n i (omega (arith, h))
scalar_comes named all n (scalar.Int (negsuc i)) h k =
    constant_comes named n (45 ∷ decimal (suc i)) (decimal_plain (suc i) (omega (arith, h))) refl refl
scalar_comes named all n (scalar.Text text) h k =
    piece_comes named n (39 ∷ text ++ 39 ∷ []) (quoted_whole text (text_unquoted text (each_text_byte text h))) refl refl
scalar_comes named all n (scalar.Bytes bytes) h k = constant_comes named n (120 ∷ encode_lower bytes) (encoded_plain bytes) refl refl
scalar_comes named all n scalar.Ellipsis h k = constant_comes named n (codes "...") refl refl refl
scalar_comes named all n (scalar.Handle handle) h k =
    subst (λ x. Comes named n (x ∷ []) (name_text (named x)) (handle_text x)) (sym k.0)
    (name_comes named n (named n) refl (counted_plain (named n) (all n)) (counted_no_handle (named n)) (counted_read (named n) (all n)))

slice_comes : (named : ℕ → Subject) → ((h : ℕ) → IsCounted (named h)) → (n : ℕ) (s : PySlice) → IsSpelledSlice s → AreNumbered n (handles_in_slice s) →
    Comes named n (handles_in_slice s) (written_slice (name_of named) s) (written_slice handle_text s)
slice_comes named all n s h k =
    let a = handles_in_scalar s.start in
    let b = handles_in_scalar s.stop in
    let c = handles_in_scalar s.step in
    let one = written_scalar (name_of named) in
    let two = written_scalar handle_text in
    let start = scalar_comes named all n s.start (spelled_part s.start h.0) (numbered_first n a b (numbered_first n (a ++ b) c k)) in
    let stop = scalar_comes named all (next_number n a) s.stop (spelled_part s.stop h.1) (numbered_second n a b (numbered_first n (a ++ b) c k)) in
    let step = scalar_comes named all (next_number n (a ++ b)) s.step (spelled_part s.step h.2) (numbered_second n (a ++ b) c k) in
    let front = joined_come named n 58 a b (one s.start) (one s.stop) (two s.start) (two s.stop) refl start stop in
    let whole = joined_come named n 58 (a ++ b) c (one s.start ++ 58 ∷ one s.stop) (one s.step) (two s.start ++ 58 ∷ two s.stop) (two s.step) refl front step in
    let first : (one s.start ++ 58 ∷ one s.stop) ++ 58 ∷ one s.step ≡ written_slice (name_of named) s = append_assoc (one s.start) (58 ∷ one s.stop) (58 ∷ one s.step) in
    let second : (two s.start ++ 58 ∷ two s.stop) ++ 58 ∷ two s.step ≡ written_slice handle_text s = append_assoc (two s.start) (58 ∷ two s.stop) (58 ∷ two s.step) in
    subst (λ t. Comes named n ((a ++ b) ++ c) t (written_slice handle_text s)) first
    (subst (λ t. Comes named n ((a ++ b) ++ c) ((one s.start ++ 58 ∷ one s.stop) ++ 58 ∷ one s.step) t) second whole)

parts_come : {A : Type 0} (named : ℕ → Subject) (handles : A → List ℕ) (t w : A → List ℕ) (P : A → Type 0)
    → ((n : ℕ) (a : A) → P a → AreNumbered n (handles a) → Comes named n (handles a) (t a) (w a))
    → (n : ℕ) (all : List A) → AllByRecursion P all → AreNumbered n (flat_map handles all)
    → Comes named n (flat_map handles all) (written_parts t all) (written_parts w all)
parts_come named handles t w P each n [] h k = nothing_comes named n
parts_come named handles t w P each n (a ∷ []) h k =
    subst (λ all. Comes named n all (t a) (w a)) (sym (append-nil (handles a))) (each n a h.0 (numbered_first n (handles a) [] k))
parts_come named handles t w P each n (a ∷ b ∷ more) h k =
    let rest = flat_map handles (b ∷ more) in
    joined_come named n 44 (handles a) rest (t a) (written_parts t (b ∷ more)) (w a) (written_parts w (b ∷ more)) refl
    (each n a h.0 (numbered_first n (handles a) rest k))
    (parts_come named handles t w P each (next_number n (handles a)) (b ∷ more) h.1 (numbered_second n (handles a) rest k))

enclosed_comes : (named : ℕ → Subject) (n opening closing : ℕ) (h t w : List ℕ) → is_mark opening ≡ true → is_mark closing ≡ true → Comes named n h t w →
    Comes named n h (opening ∷ t ++ closing ∷ []) (opening ∷ w ++ closing ∷ [])
enclosed_comes named n opening closing h t w o c comes =
    before_comes named n opening h (t ++ closing ∷ []) (w ++ closing ∷ []) o (after_comes named n closing h t w c comes)

value_comes : (named : ℕ → Subject) → ((h : ℕ) → IsCounted (named h)) → (n : ℕ) (v : Value) → IsSpelledValue v → AreNumbered n (handles_in v) →
    Comes named n (handles_in v) (written_value (name_of named) v) (written_value handle_text v)
value_comes named all n (value.One one) h k = scalar_comes named all n one h k
value_comes named all n (value.Slice slice) h k = slice_comes named all n slice h k
value_comes named all n (value.Tuple parts) h k =
    enclosed_comes named n 40 41 (flat_map handles_in_scalar parts) (written_parts (written_scalar (name_of named)) parts) (written_parts (written_scalar handle_text) parts) refl refl
    (parts_come named handles_in_scalar (written_scalar (name_of named)) (written_scalar handle_text) IsSpelled (scalar_comes named all) n parts h k)
value_comes named all n (value.List parts) h k =
    enclosed_comes named n 91 93 (flat_map handles_in_scalar parts) (written_parts (written_scalar (name_of named)) parts) (written_parts (written_scalar handle_text) parts) refl refl
    (parts_come named handles_in_scalar (written_scalar (name_of named)) (written_scalar handle_text) IsSpelled (scalar_comes named all) n parts h k)
value_comes named all n (value.Slices slices) h k =
    enclosed_comes named n 40 41 (flat_map handles_in_slice slices) (written_parts (written_slice (name_of named)) slices) (written_parts (written_slice handle_text) slices) refl refl
    (parts_come named handles_in_slice (written_slice (name_of named)) (written_slice handle_text) IsSpelledSlice (slice_comes named all) n slices h.1 k)

-- ---- arguments

-- Words with a blank before each may stand behind a piece, and so may nothing.
rest_behind : (all : List (List ℕ)) (rest : List ℕ) → IsBehind rest → IsBehind (rest_text all ++ rest)
rest_behind [] rest h = h
rest_behind (word ∷ more) rest h = refl

word_before : (named : ℕ → Subject) (n : ℕ) (h k t w : List ℕ) (us vs : List (List ℕ)) → Comes named n h t w →
    Comes named (next_number n h) k (rest_text us) (rest_text vs) → Comes named n (h ++ k) (rest_text (t ∷ us)) (rest_text (w ∷ vs))
word_before named n h k t w us vs first rest =
    both_come named n h k (32 ∷ t) (rest_text us) (32 ∷ w) (rest_text vs) (before_comes named n 32 h t w refl first) rest (rest_behind us)

values_come : (named : ℕ → Subject) → ((h : ℕ) → IsCounted (named h)) → (n : ℕ) (all : List Value) → AllByRecursion IsSpelledValue all →
    AreNumbered n (flat_map handles_in all) →
    Comes named n (flat_map handles_in all) (rest_text (map (written_value (name_of named)) all)) (rest_text (map (written_value handle_text) all))
values_come named each n [] h k = nothing_comes named n
values_come named each n (v ∷ more) h k =
    let rest = flat_map handles_in more in
    word_before named n (handles_in v) rest (written_value (name_of named) v) (written_value handle_text v)
    (map (written_value (name_of named)) more) (map (written_value handle_text) more)
    (value_comes named each n v h.0 (numbered_first n (handles_in v) rest k))
    (values_come named each (next_number n (handles_in v)) more h.1 (numbered_second n (handles_in v) rest k))

-- A word that is neither a name nor a handle stands before others.
plain_before : (named : ℕ → Subject) (n : ℕ) (k t : List ℕ) (us vs : List (List ℕ)) → Comes named n [] t t → Comes named n k (rest_text us) (rest_text vs) →
    Comes named n k (rest_text (t ∷ us)) (rest_text (t ∷ vs))
plain_before named n k t us vs first rest = word_before named n [] k t t us vs first rest

property_comes : (named : ℕ → Subject) (n : ℕ) (p : PropertyName) → Comes named n [] (written_name p) (written_name p)
property_comes named n property.Exports = constant_comes named n (written_name property.Exports) refl refl refl
property_comes named n p = constant_comes named n (written_name p) refl refl refl

operator_comes : (named : ℕ → Subject) (n : ℕ) (o : CompareOp) → Comes named n [] (written_operator o) (written_operator o)
operator_comes named n op.Eq = constant_comes named n (written_operator op.Eq) refl refl refl
operator_comes named n o = constant_comes named n (written_operator o) refl refl refl

method_comes : (named : ℕ → Subject) (n : ℕ) (m : MethodName) → Comes named n [] (written_method m) (written_method m)
method_comes named n name.Add = constant_comes named n (written_method name.Add) refl refl refl
method_comes named n m = constant_comes named n (written_method m) refl refl refl

-- The handles of a verb are those of its values, one after the other.
alone : (v : Value) → handles_in v ≡ flat_map handles_in (v ∷ [])
alone v = sym (append-nil (handles_in v))

two : (v w : Value) → handles_in v ++ handles_in w ≡ flat_map handles_in (v ∷ w ∷ [])
two v w = ap (λ l. handles_in v ++ l) (alone w)

-- the same for a list of values
abbrev joined : List Value → List ℕ
joined [] = []
joined (v ∷ []) = handles_in v
joined (v ∷ w ∷ []) = handles_in v ++ handles_in w
joined (v ∷ w ∷ x ∷ more) = flat_map handles_in (v ∷ w ∷ x ∷ more)

joined_are : (all : List Value) → joined all ≡ flat_map handles_in all
joined_are [] = refl
joined_are (v ∷ []) = alone v
joined_are (v ∷ w ∷ []) = two v w
joined_are (v ∷ w ∷ x ∷ more) = refl

values_by : (named : ℕ → Subject) → ((h : ℕ) → IsCounted (named h)) → (all : List Value) (handles : List ℕ) → handles ≡ flat_map handles_in all →
    AllByRecursion IsSpelledValue all → AreNumbered 0 handles →
    Comes named 0 handles (rest_text (map (written_value (name_of named)) all)) (rest_text (map (written_value handle_text) all))
values_by named each all handles e h k =
    subst (λ l. Comes named 0 l (rest_text (map (written_value (name_of named)) all)) (rest_text (map (written_value handle_text) all))) (sym e)
    (values_come named each 0 all h (subst (AreNumbered 0) e k))

options_come : (named : ℕ → Subject) → ((h : ℕ) → IsCounted (named h)) → (source encoding errors : Option Value) → AreSpelledValues source encoding errors →
    AreNumbered 0 (handles_in_option source ++ handles_in_option encoding ++ handles_in_option errors) →
    Comes named 0 (handles_in_option source ++ handles_in_option encoding ++ handles_in_option errors)
    (rest_text (written_values (name_of named) source encoding errors)) (rest_text (written_values handle_text source encoding errors))
options_come named each None None None h k = nothing_comes named 0
options_come named each (Some s) None None h k =
    values_by named each (s ∷ []) ((handles_in s ++ []) ++ []) (append-nil (handles_in s ++ [])) (h, tt) k
options_come named each (Some s) (Some e) None h k =
    values_by named each (s ∷ e ∷ []) ((handles_in s ++ handles_in e) ++ []) (append-nil (handles_in s ++ handles_in e) ∙ two s e) (h.0, (h.1, tt)) k
options_come named each (Some s) (Some e) (Some r) h k =
    values_by named each (s ∷ e ∷ r ∷ []) ((handles_in s ++ handles_in e) ++ handles_in r)
    (append_assoc (handles_in s) (handles_in e) (handles_in r) ∙ ap (λ l. handles_in s ++ l) (two e r)) (h.0, (h.1, (h.2, tt))) k
options_come named each None None (Some r) h k = absurd h
options_come named each None (Some e) r h k = absurd h
options_come named each (Some s) None (Some r) h k = absurd h

arguments_come : (named : ℕ → Subject) → ((h : ℕ) → IsCounted (named h)) → (v : Verb) → IsSpelledVerb v → AreNumbered 0 (handles_of v) →
    Comes named 0 (handles_of v) (rest_text (written_arguments (name_of named) v)) (rest_text (written_arguments handle_text v))
arguments_come named each (verb.Property p) h k =
    plain_before named 0 [] (written_name p) [] [] (property_comes named 0 p) (nothing_comes named 0)
arguments_come named each (verb.Compare o v) h k =
    plain_before named 0 (handles_in v) (written_operator o) (written_value (name_of named) v ∷ []) (written_value handle_text v ∷ []) (operator_comes named 0 o)
    (values_by named each (v ∷ []) (handles_in v) (alone v) (h, tt) k)
arguments_come named each (verb.Init options) h k = options_come named each options.source options.encoding options.errors h k
arguments_come named each (verb.Call method) h k =
    plain_before named 0 (flat_map handles_in method.args) (written_method method.name) (map (written_value (name_of named)) method.args)
    (map (written_value handle_text) method.args) (method_comes named 0 method.name) (values_come named each 0 method.args h.1 k)
arguments_come named each (verb.Cast format None) h k = values_by named each (format ∷ []) (handles_in format ++ []) refl h k
arguments_come named each (verb.Cast format (Some shape)) h k =
    values_by named each (format ∷ shape ∷ []) (handles_in format ++ handles_in shape) (two format shape) h k
arguments_come named each (verb.CastF format shape) h k =
    values_by named each (format ∷ shape ∷ []) (handles_in format ++ handles_in shape) (two format shape) h k
arguments_come named each (verb.ToBytes None) h k = nothing_comes named 0
arguments_come named each (verb.ToBytes (Some order)) h k = values_by named each (order ∷ []) (handles_in order) (alone order) h k
arguments_come named each (verb.Hex None None) h k = nothing_comes named 0
arguments_come named each (verb.Hex None (Some group)) h k = absurd h
arguments_come named each (verb.Hex (Some sep) None) h k = values_by named each (sep ∷ []) (handles_in sep ++ []) refl h k
arguments_come named each (verb.Hex (Some sep) (Some group)) h k =
    values_by named each (sep ∷ group ∷ []) (handles_in sep ++ handles_in group) (two sep group) h k
arguments_come named each (verb.Pop None) h k = nothing_comes named 0
arguments_come named each (verb.Pop (Some index)) h k = values_by named each (index ∷ []) (handles_in index) (alone index) h k
arguments_come named each v h k = values_by named each (values_of v) (handles_of v) (joined_are (values_of v)) h k

-- ---- the line

abbrev is_unbroken : ℕ → Bool
is_unbroken b = not (b == 32)

byte_on : (x : ℕ) (text : List ℕ) → is_unbroken x ≡ true → words (x ∷ text) ≡ onto_first x (words text)
byte_on x text h = ap (λ cut. cond cut ([] ∷ words text) (onto_first x (words text))) (unbroken_is_no_blank x h)

blank_cuts : (a rest : List ℕ) → list_all is_unbroken a ≡ true → words (a ++ 32 ∷ rest) ≡ a ∷ words rest
blank_cuts [] rest h = refl
blank_cuts (x ∷ a) rest h =
    byte_on x (a ++ 32 ∷ rest) (first_of_all is_unbroken x a h) ∙ ap (onto_first x) (blank_cuts a rest (rest_of_all is_unbroken x a h))

nothing_cuts : (a : List ℕ) → list_all is_unbroken a ≡ true → words a ≡ a ∷ []
nothing_cuts [] h = refl
nothing_cuts (x ∷ a) h = byte_on x a (first_of_all is_unbroken x a h) ∙ ap (onto_first x) (nothing_cuts a (rest_of_all is_unbroken x a h))

plain_byte : (b : ℕ) → is_plain b ≡ true → is_unbroken b ≡ true
plain_byte b h = grind (arith, tests)

plain_unbroken : (text : List ℕ) → IsPlain text → list_all is_unbroken text ≡ true
plain_unbroken [] h = refl
plain_unbroken (x ∷ xs) h = rw (plain_byte x (first_of_all is_plain x xs h), plain_unbroken xs (rest_of_all is_plain x xs h)) refl

word_unbroken : (w : Word) → list_all is_unbroken (written_word w) ≡ true
word_unbroken word.New = refl
word_unbroken _ = refl

-- The first word stands alone, and each other word has a blank before it.
joined_text : (first : List ℕ) (all : List (List ℕ)) → join_with_byte 32 (first ∷ all) ≡ first ++ rest_text all
joined_text first [] = sym (append-nil first)
joined_text first (next ∷ more) = ap (λ l. first ++ 32 ∷ l) (joined_text next more)

-- the words of a text that begins with a word, and what stands behind that word
pub record IsFrontOf (text first behind_it : List ℕ) : Type 0 where
  pub others : List (List ℕ)
  pub cut : words text ≡ first ∷ others
  pub behind_is : rest_text others ≡ behind_it

front_of : (first : List ℕ) (all : List (List ℕ)) → list_all is_unbroken first ≡ true → IsFrontOf (first ++ rest_text all) first (rest_text all)
front_of first [] h = record { others = []; cut = ap words (append-nil first) ∙ nothing_cuts first h; behind_is = refl }
front_of first (next ∷ more) h = record {
  others = words (next ++ rest_text more);
  cut = blank_cuts first (next ++ rest_text more) h;
  behind_is = words_text (next ++ rest_text more);
}

session_read : (n : ℕ) → n < 16 → session_in (decimal n) ≡ Some n
session_read n h =
    let short : length (decimal n) ≤ 2 = length-decimal-le 2 n (omega arith) (omega (arith, h)) (omega (arith, h)) in
    let read : number_below 16 (decimal n) ≡ Some n = decimal_read 16 n h (omega arith) in
    grind (arith, tests, short, read)

-- The text spells this command.
local_read : (s : Subject) (v : Verb) (word text rest : List ℕ) (loans : List (ℕ × Loan)) →
    list_any is_handle (pieces text) ≡ false → handled_from 0 (pieces text) ≡ rest → loans_from 0 (pieces text) ≡ loans →
    command_in handle_in (word ++ 32 ∷ handle_text 0 ++ rest) ≡ Some (command.Do 0 v) → local_command_in s word text ≡ Some (record { subject = s; verb = v; loans = loans })
local_read s v word text rest loans free handled lent asked = rw (free, handled, lent, asked) refl

-- what is read of the words of a line
words_read : (session : List ℕ) (n : ℕ) (word name text : List ℕ) (s : Subject) (others : List (List ℕ)) (c : LocalCommand) →
    session_in session ≡ Some n → name_in name ≡ Some s → rest_text others ≡ text → local_command_in s word text ≡ Some c →
    ask_of_words (session ∷ word ∷ name ∷ others) ≡ Some (record { session = n; command = c })
words_read session n word name text s others c number is behind_is reads =
    let local : local_command_in s word (rest_text others) ≡ Some c = ap (local_command_in s word) behind_is ∙ reads in
    rw (number, is, local) refl

-- The text with handles is that of the command.
written_text : (v : Verb) → written_command handle_text (command.Do 0 v) ≡ (written_word (word_of v) ++ 32 ∷ handle_text 0) ++ rest_text (written_arguments handle_text v)
written_text v =
    ap (λ l. written_word (word_of v) ++ 32 ∷ l) (joined_text (handle_text 0) (written_arguments handle_text v))
    ∙ sym (append_assoc (written_word (word_of v)) (32 ∷ handle_text 0) (rest_text (written_arguments handle_text v)))

pub lines_read_back : CommandsReadBack → SessionLinesReadBack
unfolding ask_in
lines_read_back commands session s v named small counted each spelled numbered =
    let args = written_arguments (name_of named) v in
    let w = written_word (word_of v) in
    let front = front_of (name_text s) args (plain_unbroken (name_text s) (counted_plain s counted)) in
    let line : written_line session s v named ≡ decimal session ++ 32 ∷ (w ++ 32 ∷ (name_text s ++ rest_text args)) =
    ap (λ l. decimal session ++ 32 ∷ (w ++ 32 ∷ l)) (joined_text (name_text s) args) in
    let cut : words (written_line session s v named) ≡ decimal session ∷ w ∷ name_text s ∷ front.others =
    ap words line
    ∙ (blank_cuts (decimal session) (w ++ 32 ∷ (name_text s ++ rest_text args)) (plain_unbroken (decimal session) (decimal_plain session (omega (arith, small))))
    ∙ ap (λ l. decimal session ∷ l) (blank_cuts w (name_text s ++ rest_text args) (word_unbroken (word_of v)) ∙ ap (λ l. w ∷ l) front.cut)) in
    let comes : outcome 0 (rest_text args ++ []) ≡ behind (rest_text (written_arguments handle_text v)) (lent_by named (handles_of v)) (outcome (next_number 0 (handles_of v)) []) =
    arguments_come named each v spelled numbered [] tt in
    let is : outcome 0 (rest_text args) ≡ behind (rest_text (written_arguments handle_text v)) (lent_by named (handles_of v)) (outcome (next_number 0 (handles_of v)) []) =
    sym (ap (outcome 0) (append-nil (rest_text args))) ∙ comes in
    let asked : command_in handle_in (w ++ 32 ∷ handle_text 0 ++ rest_text (written_arguments handle_text v)) ≡ Some (command.Do 0 v) =
    sym (ap (command_in handle_in) (written_text v)) ∙ commands (command.Do 0 v) (omega arith, spelled) in
    ap ask_of_words cut
    ∙ words_read (decimal session) session w (name_text s) (rest_text args) s front.others
    (record { subject = s; verb = v; loans = lent_by named (handles_of v) }) (session_read session small) (counted_read s counted) front.behind_is
    (local_read s v w (rest_text args) (rest_text (written_arguments handle_text v)) (lent_by named (handles_of v))
    (ap (λ o. o.refused) is) (ap (λ o. o.text) is ∙ append-nil (rest_text (written_arguments handle_text v)))
    (ap (λ o. o.loans) is ∙ append-nil (lent_by named (handles_of v))) asked)

-- ---- the first line

pub openings_read_back : CommandsReadBack → OpeningsReadBack
unfolding opening_in
openings_read_back commands k bytes h =
    ap opening_of (commands (command.New k (record { source = Some (value.One (scalar.Bytes bytes)); encoding = None; errors = None })) h)

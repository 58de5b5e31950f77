-- An operation that was written is read back.
use Rattle.std.proofs.Common.{◌≡◌, ℕ, ◌+◌, ◌<◌, ◌^◌, length, List, [], ◌∷◌, ◌++◌, map, Bool, true, false, cond, ◌==◌, codes, decimal, Option, Some, None, refl, sym, ◌∙◌, ap, arith, ℤ}
use Rattle.std.specs.Fmt.{digits}
use Rattle.std.specs.Prelude.{count_by}
use Rattle.std.specs.List.{join_with_byte, onto_first, AllByRecursion}
use Rattle.std.proofs.lemmas.List.Splits.{join_with_byte-slice_split, length-slice_split}
use Rattle.pybuf_value.specs.Choosing.{◌>>=◌}
use Rattle.pybuf_value.specs.Spelling.{handle_text}
use Rattle.pybuf_value.specs.declared.values.Scalar.TheVariants as scalar
use Rattle.pybuf_value.specs.declared.values.Value.{Value}
use Rattle.pybuf_value.specs.declared.values.Value.TheVariants as value
use Rattle.pybuf_command.specs.declared.commands.Verb.{Verb}
use Rattle.pybuf_command.specs.declared.commands.Verb.TheVariants as verb
use Rattle.pybuf_command.specs.declared.worlds.Command.{Command}
use Rattle.pybuf_command.specs.declared.worlds.Command.TheVariants as command
use Rattle.pybuf_array.specs.declared.operations.ArrayOp.{ArrayOp}
use Rattle.pybuf_array.specs.declared.operations.ArrayOp.TheVariants as op
use Rattle.pybuf_line.specs.declared.words.Word.{Word as LineWord}
use Rattle.pybuf_line.specs.declared.words.Word.TheVariants as line
use Rattle.pybuf_line.specs.Words.{words, word_in}
use Rattle.pybuf_line.specs.Scalars.{handle_in}
use Rattle.pybuf_line.specs.Spellings.{value_in, written_value}
use Rattle.pybuf_line.specs.Commands.{verb_of_one, verb_of_two, do_in, command_in}
use Rattle.pybuf_line.specs.Laws.{Is128Bits, IsSpelled, IsSpelledValue, ValuesReadBack, CommandsReadBack}
use Rattle.pybuf_array_lines.specs.declared.words.Word.{Word}
use Rattle.pybuf_array_lines.specs.declared.words.Word.TheVariants as word
use Rattle.pybuf_array_lines.specs.Words as own
use Rattle.pybuf_array_lines.specs.Arguments.{number_of, numbers_of, bytes_of, slice_of, each_number, argument_in, view_in}
use Rattle.pybuf_array_lines.specs.Operations.{operation_by, operation_of_words, operation_in}
use Rattle.pybuf_array_lines.specs.Laws.{written_number, written_numbers, written_bytes, OperationsReadBack}

-- ---- texts that are a single word

abbrev IsWord : List ℕ → Type 0
IsWord text = words text ≡ text ∷ []

-- If a text is all one part, a byte in front of it that joins its first part is no blank.
no_blank_first : (x : ℕ) (cut : Bool) (text : List ℕ) (parts : List (List ℕ)) (n : ℕ) → length parts ≡ n + 1 →
    cond cut ([] ∷ parts) (onto_first x parts) ≡ (x ∷ text) ∷ [] → (cut ≡ false) × (parts ≡ text ∷ [])
no_blank_first x true text parts n some is =
    let both : [] ∷ parts ≡ (x ∷ text) ∷ [] = is in
    let no : ⊥ = cc in absurd no
no_blank_first x false text [] n some is = absurd (omega (arith, some))
no_blank_first x false text (first ∷ more) n some is =
    let both : (x ∷ first) ∷ more ≡ (x ∷ text) ∷ [] = is in (refl, cc)

behind_first : (x : ℕ) (text : List ℕ) → IsWord (x ∷ text) → ((x == 32) ≡ false) × IsWord text
behind_first x text is = no_blank_first x (x == 32) text (words text) (count_by (λ b. b == 32) text) (length-slice_split (λ b. b == 32) text) is

-- Such a text is the first word if a blank stands behind it.
first_word_of : (text rest : List ℕ) → IsWord text → words (text ++ 32 ∷ rest) ≡ text ∷ words rest
first_word_of [] rest is = refl
first_word_of (x ∷ text) rest is =
    let first = behind_first x text is in
    ap (λ cut. cond cut ([] ∷ words (text ++ 32 ∷ rest)) (onto_first x (words (text ++ 32 ∷ rest)))) first.0
    ∙ ap (onto_first x) (first_word_of text rest first.1)

words_joined : (text : List ℕ) (more : List (List ℕ)) → AllByRecursion IsWord (text ∷ more) → words (join_with_byte 32 (text ∷ more)) ≡ text ∷ more
words_joined text [] each = each.0
words_joined text (next ∷ more) each =
    first_word_of text (join_with_byte 32 (next ∷ more)) each.0 ∙ ap (λ others. text ∷ others) (words_joined next more each.1)

-- ---- values, as on other lines

no_one : (a : Option Value) → (a >>= (λ v. verb_of_one line.Len v)) ≡ None
no_one None = refl
no_one (Some v) = refl

no_two : (w : LineWord) → ((u v : Value) → verb_of_two w u v ≡ None) → (a b : Option Value) → (a >>= (λ u. b >>= (λ v. verb_of_two w u v))) ≡ None
no_two w none None b = refl
no_two w none (Some u) None = refl
no_two w none (Some u) (Some v) = none u v

-- a command on a handle, if the line asks for one
abbrev command_of : Option ℕ → Option Verb → Option Command
command_of handle asks = handle >>= (λ h. asks >>= (λ v. Some (command.Do h v)))

nothing_asked : (handle : Option ℕ) (asks : Option Verb) (c : Command) → asks ≡ None → command_of handle asks ≡ Some c → ⊥
nothing_asked None asks c none is = cc
nothing_asked (Some h) asks c none is =
    let no : None ≡ Some c = sym (ap (command_of (Some h)) none) ∙ is in cc

-- What `get` reads behind its subject is one word.
one_key : (arguments : List (List ℕ)) (c : Command) → do_in handle_in line.Get (codes "h0" ∷ arguments) ≡ Some c →
    (key : List ℕ) × (arguments ≡ key ∷ [])
one_key [] c is = absurd (nothing_asked (handle_in (codes "h0")) None c refl is)
one_key (key ∷ []) c is = (key, refl)
one_key (a ∷ b ∷ []) c is =
    absurd (nothing_asked (handle_in (codes "h0")) (value_in handle_in a >>= (λ u. value_in handle_in b >>= (λ v. verb_of_two line.Get u v))) c
    (no_two line.Get (λ u v. refl) (value_in handle_in a) (value_in handle_in b)) is)
one_key (a ∷ b ∷ d ∷ more) c is = absurd (nothing_asked (handle_in (codes "h0")) None c refl is)

get_read : CommandsReadBack → (v : Value) → IsSpelledValue v →
    do_in handle_in line.Get (codes "h0" ∷ words (written_value handle_text v)) ≡ Some (command.Do 0 (verb.Get v))
unfolding command_in word_in digits
get_read commands v spelled = commands (command.Do 0 (verb.Get v)) (omega arith, (spelled, tt))

whole_word : (text word : List ℕ) → words text ≡ word ∷ [] → IsWord text
whole_word text word one =
    let same : text ≡ word = sym (join_with_byte-slice_split 32 text) ∙ ap (join_with_byte 32) one in
    one ∙ ap (λ w. w ∷ []) (sym same)

value_word : CommandsReadBack → (v : Value) → IsSpelledValue v → IsWord (written_value handle_text v)
value_word commands v spelled =
    let key = one_key (words (written_value handle_text v)) (command.Do 0 (verb.Get v)) (get_read commands v spelled) in
    whole_word (written_value handle_text v) key.0 key.1

-- What `len` reads is one word, which spells the handle.
record IsSubject (subjects : List (List ℕ)) (k : ℕ) : Type 0 where
  subject : List ℕ
  alone : subjects ≡ subject ∷ []
  spelled : handle_in subject ≡ Some k

same_handle : (o : Option ℕ) (k : ℕ) → command_of o (Some verb.Len) ≡ Some (command.Do k verb.Len) → o ≡ Some k
same_handle None k is = let no : ⊥ = cc in absurd no
same_handle (Some h) k is = cc

one_subject : (subjects : List (List ℕ)) (k : ℕ) → do_in handle_in line.Len subjects ≡ Some (command.Do k verb.Len) → IsSubject subjects k
one_subject [] k is = let no : ⊥ = cc in absurd no
one_subject (subject ∷ []) k is = record { subject = subject; alone = refl; spelled = same_handle (handle_in subject) k is }
one_subject (subject ∷ a ∷ []) k is =
    absurd (nothing_asked (handle_in subject) (value_in handle_in a >>= (λ v. verb_of_one line.Len v)) (command.Do k verb.Len) (no_one (value_in handle_in a)) is)
one_subject (subject ∷ a ∷ b ∷ []) k is =
    absurd (nothing_asked (handle_in subject) (value_in handle_in a >>= (λ u. value_in handle_in b >>= (λ v. verb_of_two line.Len u v)))
    (command.Do k verb.Len) (no_two line.Len (λ u v. refl) (value_in handle_in a) (value_in handle_in b)) is)
one_subject (subject ∷ a ∷ b ∷ d ∷ more) k is = absurd (nothing_asked (handle_in subject) None (command.Do k verb.Len) refl is)

len_read : CommandsReadBack → (k : ℕ) → k < 2 ^ 64 → do_in handle_in line.Len (words (handle_text k)) ≡ Some (command.Do k verb.Len)
unfolding command_in word_in
len_read commands k small = commands (command.Do k verb.Len) (small, tt)

-- The number of a view is one word, and is read as the number of a handle is.
record IsViewWord (k : ℕ) : Type 0 where
  word : IsWord (decimal k)
  read : view_in (decimal k) ≡ Some k

view_word : CommandsReadBack → (k : ℕ) → k < 2 ^ 64 → IsViewWord k
view_word commands k small =
    let found = one_subject (words (handle_text k)) k (len_read commands k small) in
    let whole : IsWord (handle_text k) = whole_word (handle_text k) found.subject found.alone in
    let same : handle_text k ≡ found.subject = let both : handle_text k ∷ [] ≡ found.subject ∷ [] = sym whole ∙ found.alone in cc in
    record {
      word = (behind_first 104 (decimal k) whole).1;
      read = ap handle_in same ∙ found.spelled;
    }

-- ---- operations

own_word : (w : Word) → IsWord (own.written_word w)
own_word word.Append = refl
own_word _ = refl

own_read : (w : Word) → own.word_in (own.written_word w) ≡ Some w
unfolding own.word_in
own_read word.Append = refl
own_read _ = refl

-- a line whose arguments are one word each, by its first word and the others
read_words : (w : Word) (arguments : List (List ℕ)) (o : Option ArrayOp) → AllByRecursion IsWord arguments → operation_by w arguments ≡ o →
    operation_in (join_with_byte 32 (own.written_word w ∷ arguments)) ≡ o
unfolding operation_in
read_words w arguments o each is =
    ap operation_of_words (words_joined (own.written_word w) arguments (own_word w, each))
    ∙ (ap (λ (found : Option Word). found >>= (λ x. operation_by x arguments)) (own_read w) ∙ is)

-- An argument is read, and is one word.
record IsArgument {A : Type 0} (kind : Value → Option A) (text : List ℕ) (a : A) : Type 0 where
  word : IsWord text
  read : argument_in kind text ≡ Some a

argument : {A : Type 0} → ValuesReadBack → CommandsReadBack → (kind : Value → Option A) (v : Value) (a : A) → IsSpelledValue v → kind v ≡ Some a →
    IsArgument kind (written_value handle_text v) a
argument values commands kind v a spelled is = record {
  word = value_word commands v spelled;
  read = ap (λ (found : Option Value). found >>= kind) (values v spelled) ∙ is;
}

each_spelled : (numbers : List ℤ) → AllByRecursion Is128Bits numbers → AllByRecursion IsSpelled (map scalar.Int numbers)
each_spelled [] spelled = tt
each_spelled (n ∷ more) spelled = (spelled.0, each_spelled more spelled.1)

each_read : (numbers : List ℤ) → each_number (map scalar.Int numbers) ≡ Some numbers
each_read [] = refl
each_read (n ∷ more) = ap (λ (found : Option (List ℤ)). found >>= (λ ns. Some (n ∷ ns))) (each_read more)

-- operations with one, two and three arguments, by what is read for each
of_one : {A : Type 0} (form : A → ArrayOp) (read : Option A) (a : A) → read ≡ Some a → (read >>= (λ x. Some (form x))) ≡ Some (form a)
of_one form read a is = ap (λ r. r >>= (λ x. Some (form x))) is

of_two : {A B : Type 0} (form : A → B → ArrayOp) (first : Option A) (second : Option B) (a : A) (b : B) → first ≡ Some a → second ≡ Some b →
    (first >>= (λ x. second >>= (λ y. Some (form x y)))) ≡ Some (form a b)
of_two form first second a b is so = rw (is, so) refl

of_three : {A B C : Type 0} (form : A → B → C → ArrayOp) (first : Option A) (second : Option B) (third : Option C) (a : A) (b : B) (c : C) →
    first ≡ Some a → second ≡ Some b → third ≡ Some c →
    (first >>= (λ x. second >>= (λ y. third >>= (λ z. Some (form x y z))))) ≡ Some (form a b c)
of_three form first second third a b c is so too = rw (is, so, too) refl

number_alone : (w : Word) (form : ℤ → ArrayOp) (n : ℤ) → IsArgument number_of (written_number n) n →
    operation_by w (written_number n ∷ []) ≡ (argument_in number_of (written_number n) >>= (λ x. Some (form x))) →
    operation_in (join_with_byte 32 (own.written_word w ∷ written_number n ∷ [])) ≡ Some (form n)
number_alone w form n found by =
    read_words w (written_number n ∷ []) (Some (form n)) (found.word, tt)
    (by ∙ of_one form (argument_in number_of (written_number n)) n found.read)

two_numbers : (w : Word) (form : ℤ → ℤ → ArrayOp) (m n : ℤ) → IsArgument number_of (written_number m) m → IsArgument number_of (written_number n) n →
    operation_by w (written_number m ∷ written_number n ∷ []) ≡
    (argument_in number_of (written_number m) >>= (λ x. argument_in number_of (written_number n) >>= (λ y. Some (form x y)))) →
    operation_in (join_with_byte 32 (own.written_word w ∷ written_number m ∷ written_number n ∷ [])) ≡ Some (form m n)
two_numbers w form m n first second by =
    read_words w (written_number m ∷ written_number n ∷ []) (Some (form m n)) (first.word, (second.word, tt))
    (by ∙ of_two form (argument_in number_of (written_number m)) (argument_in number_of (written_number n)) m n first.read second.read)

by_cases : ValuesReadBack → CommandsReadBack → ((n : ℤ) → Is128Bits n → IsArgument number_of (written_number n) n) → ((k : ℕ) → k < 2 ^ 64 → IsViewWord k) →
    OperationsReadBack
by_cases values commands number view (op.Append n) h = number_alone word.Append op.Append n (number n h) refl
by_cases values commands number view (op.Extend ns) h =
    let found = argument values commands numbers_of (value.List (map scalar.Int ns)) ns (each_spelled ns h) (each_read ns) in
    read_words word.Extend (written_numbers ns ∷ []) (Some (op.Extend ns)) (found.word, tt)
    (of_one op.Extend (argument_in numbers_of (written_numbers ns)) ns found.read)
by_cases values commands number view (op.Insert i n) h = two_numbers word.Insert op.Insert i n (number i h.0) (number n h.1) refl
by_cases values commands number view (op.Pop None) h = read_words word.Pop [] (Some (op.Pop None)) tt refl
by_cases values commands number view (op.Pop (Some i)) h = number_alone word.Pop (λ x. op.Pop (Some x)) i (number i h) refl
by_cases values commands number view (op.Remove n) h = number_alone word.Remove op.Remove n (number n h) refl
by_cases values commands number view (op.FromBytes bs) h =
    let found = argument values commands bytes_of (value.One (scalar.Bytes bs)) bs h refl in
    read_words word.FromBytes (written_bytes bs ∷ []) (Some (op.FromBytes bs)) (found.word, tt)
    (of_one op.FromBytes (argument_in bytes_of (written_bytes bs)) bs found.read)
by_cases values commands number view (op.Get i) h = number_alone word.Get op.Get i (number i h) refl
by_cases values commands number view (op.Set i n) h = two_numbers word.Set op.Set i n (number i h.0) (number n h.1) refl
by_cases values commands number view op.Len h = read_words word.Len [] (Some op.Len) tt refl
by_cases values commands number view op.ToList h = read_words word.ToList [] (Some op.ToList) tt refl
by_cases values commands number view op.ToBytes h = read_words word.ToBytes [] (Some op.ToBytes) tt refl
by_cases values commands number view op.ByteSwap h = read_words word.ByteSwap [] (Some op.ByteSwap) tt refl
by_cases values commands number view op.View h = read_words word.View [] (Some op.View) tt refl
by_cases values commands number view (op.ViewSlice k s) h =
    let first = view k h.0 in
    let second = argument values commands slice_of (value.Slice s) s h.1 refl in
    read_words word.ViewSlice (decimal k ∷ written_value handle_text (value.Slice s) ∷ []) (Some (op.ViewSlice k s)) (first.word, (second.word, tt))
    (of_two op.ViewSlice (view_in (decimal k)) (argument_in slice_of (written_value handle_text (value.Slice s))) k s first.read second.read)
by_cases values commands number view (op.ViewGet k i) h =
    let first = view k h.0 in
    let second = number i h.1 in
    read_words word.ViewGet (decimal k ∷ written_number i ∷ []) (Some (op.ViewGet k i)) (first.word, (second.word, tt))
    (of_two op.ViewGet (view_in (decimal k)) (argument_in number_of (written_number i)) k i first.read second.read)
by_cases values commands number view (op.ViewSet k i n) h =
    let first = view k h.0 in
    let second = number i h.1 in
    let third = number n h.2 in
    read_words word.ViewSet (decimal k ∷ written_number i ∷ written_number n ∷ []) (Some (op.ViewSet k i n)) (first.word, (second.word, (third.word, tt)))
    (of_three op.ViewSet (view_in (decimal k)) (argument_in number_of (written_number i)) (argument_in number_of (written_number n)) k i n first.read
    second.read third.read)
by_cases values commands number view (op.Release k) h =
    let found = view k h in
    read_words word.Release (decimal k ∷ []) (Some (op.Release k)) (found.word, tt) (of_one op.Release (view_in (decimal k)) k found.read)

pub operations_read : ValuesReadBack → CommandsReadBack → OperationsReadBack
operations_read values commands =
    by_cases values commands (λ n small. argument values commands number_of (value.One (scalar.Int n)) n small refl) (view_word commands)

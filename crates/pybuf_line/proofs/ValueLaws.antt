-- A value that was written is read back, with all its parts.
use Rattle.std.proofs.Common.{◌≡◌, ◌⊎◌, inl, inr, ℕ, ◌/◌, ◌%◌, ◌^◌, ◌+◌, ◌<◌, zero, suc, pos, negsuc, List, [], ◌∷◌, ◌++◌, map, slice_index, Bool, true, false, not, cond, ◌==◌, ◌&&◌, ◌||◌, Option, Some, None, Result, Ok, Err, refl, sym, ◌∙◌, ap, arith, tests, decimal, codes}
use Rattle.std.specs.List.{onto_first, list_all, list_any, AllByRecursion}
use Rattle.std.specs.Char.{is_ascii_digit, digit_value}
use Rattle.std.specs.Str.{bytes_eq}
use Rattle.std.specs.Str.Parse.{AllDigits}
use Rattle.std.proofs.lemmas.List.{append_assoc, append-nil}
use Rattle.std.proofs.lemmas.List.Sums.{list_all-from_AllPass}
use Rattle.std.proofs.lemmas.Str.Parse.{digit_from_value}
use Rattle.std.proofs.lemmas.Fmt.{decimal_is_IsNumeral_wide}
use Rattle.pybuf_lemmas.proofs.Booleans.{and_not_true, and_false}
use Rattle.pybuf_lemmas.proofs.Numbers.{passed_numbers_are_equal}
use Rattle.pybuf_line.specs.Facts.{each_text_byte}
use Rattle.hex.specs.Hex.{lower_digits, encode_with, encode_lower, decode_of, is_hex_digit}
use Rattle.hex.specs.declared.error.FromHexError.{FromHexError}
use Rattle.hex.proofs.HexLemmas.{decode_of-ok}
use Rattle.pybuf_value.specs.declared.values.Scalar.{Scalar}
use Rattle.pybuf_value.specs.declared.values.Scalar.TheVariants as scalar
use Rattle.pybuf_value.specs.declared.values.PySlice.{PySlice}
use Rattle.pybuf_value.specs.declared.values.Value.TheVariants as value
use Rattle.pybuf_line.specs.Parts.{parts_at, parts_from, parts_outside_quotes, each}
use Rattle.pybuf_value.specs.Spelling.{handle_text}
use Rattle.pybuf_line.specs.Scalars.{constant_in, is_number, number_below, whole_in, positive_in, negative_in, handle_in, bytes_in, bytes_decoded, is_text_byte, text_in, plain_in, scalar_in, written_scalar}
use Rattle.pybuf_line.specs.Spellings.{slice_of, slice_in, scalars_in, slices_in, tuple_in, list_in, tuple_of_slices_in, value_in, written_slice, written_parts, written_value}
use Rattle.pybuf_line.specs.Laws.{IsSpelled, IsSlicePart, IsSpelledSlice, ValuesReadBack}
use Rattle.pybuf_line.proofs.Colons.{some_part as colon_part}
use Rattle.pybuf_line.proofs.Commas.{some_part, quote_cuts, other_cuts}
use Rattle.pybuf_line.proofs.SpellingLaws.{same_bytes, no_number, enclosed_read, part_reads, scalars_read}

-- The byte is no colon, no comma, no quote and no blank.
abbrev pub is_free : ℕ → Bool
is_free b = not (b == 58) && not (b == 44) && not (b == 39) && not (b == 32)

abbrev pub IsFree : List ℕ → Type 0
IsFree text = list_all is_free text ≡ true

digit_free : (c : ℕ) → digit_value c < 10 → is_free c ≡ true
digit_free c h = let r = digit_from_value c h in grind (arith, tests, r)

digits_free : (ds : List ℕ) → AllDigits 10 ds → IsFree ds
digits_free [] h = refl
digits_free (c ∷ cs) h = rw (digit_free c h.0, digits_free cs h.1) refl

first_free : (x : ℕ) (xs : List ℕ) → IsFree (x ∷ xs) → is_free x ≡ true
first_free x xs h = grind (arith, tests)

rest_free : (x : ℕ) (xs : List ℕ) → IsFree (x ∷ xs) → IsFree xs
rest_free x xs h = grind (arith, tests)

-- a byte of a text, or 0 past its end
byte_free : (xs : List ℕ) (k : ℕ) → IsFree xs → is_free (slice_index xs k) ≡ true
byte_free [] k h = refl
byte_free (x ∷ xs) zero h = first_free x xs h
byte_free (x ∷ xs) (suc k) h = byte_free xs k (rest_free x xs h)

encoded_free : (bs : List ℕ) → IsFree (encode_lower bs)
unfolding encode_with
encoded_free [] = refl
encoded_free (b ∷ bs) = rw (byte_free lower_digits (b / 16) refl, byte_free lower_digits (b % 16) refl, encoded_free bs) refl

pub part_free : (s : Scalar) → IsSlicePart s → IsFree (written_scalar handle_text s)
part_free scalar.None h = refl
part_free (scalar.Bool true) h = refl
part_free (scalar.Bool false) h = refl
part_free (scalar.Int (pos n)) h = digits_free (decimal n) (decimal_is_IsNumeral_wide n (omega (arith, h))).0.1
part_free (scalar.Int (negsuc n)) h = digits_free (decimal (suc n)) (decimal_is_IsNumeral_wide (suc n) (omega (arith, h))).0.1
part_free (scalar.Text text) h = absurd h
part_free (scalar.Bytes bytes) h = encoded_free bytes
part_free scalar.Ellipsis h = refl
part_free (scalar.Handle n) h = digits_free (decimal n) (decimal_is_IsNumeral_wide n (omega (arith, h))).0.1

-- Colons cut a text into parts.
no_colon : (x : ℕ) → is_free x ≡ true → (x == 58) ≡ false
no_colon x h = grind (arith, tests)

byte_on : (x : ℕ) (text : List ℕ) → is_free x ≡ true → parts_at 58 (x ∷ text) ≡ onto_first x (parts_at 58 text)
byte_on x text h = ap (λ cut. cond cut ([] ∷ parts_at 58 text) (onto_first x (parts_at 58 text))) (no_colon x h)

colon_cuts : (a rest : List ℕ) → IsFree a → parts_at 58 (a ++ 58 ∷ rest) ≡ a ∷ parts_at 58 rest
colon_cuts [] rest h = refl
colon_cuts (x ∷ a) rest h = byte_on x (a ++ 58 ∷ rest) (first_free x a h) ∙ ap (onto_first x) (colon_cuts a rest (rest_free x a h))

nothing_cuts : (a : List ℕ) → IsFree a → parts_at 58 a ≡ a ∷ []
nothing_cuts [] h = refl
nothing_cuts (x ∷ a) h = byte_on x a (first_free x a h) ∙ ap (onto_first x) (nothing_cuts a (rest_free x a h))

slice_reads : (s : PySlice) → IsSpelledSlice s → slice_in handle_in (written_slice handle_text s) ≡ Some s
slice_reads s h =
    let start = part_free s.start h.0 in
    let stop = part_free s.stop h.1 in
    let step = part_free s.step h.2 in
    let one = colon_cuts (written_scalar handle_text s.start) (written_scalar handle_text s.stop ++ 58 ∷ written_scalar handle_text s.step) start in
    let two = colon_cuts (written_scalar handle_text s.stop) (written_scalar handle_text s.step) stop in
    let three = nothing_cuts (written_scalar handle_text s.step) step in
    let rest = two ∙ ap (λ parts. (written_scalar handle_text) s.stop ∷ parts) three in
    let cuts = one ∙ ap (λ parts. (written_scalar handle_text) s.start ∷ parts) rest in
    ap (slice_of handle_in) cuts ∙ rw (part_reads s.start h.0, part_reads s.stop h.1, part_reads s.step h.2) refl

-- Commas cut a text into parts, but not within a part.
abbrev onto_front : List ℕ → List (List ℕ) → List (List ℕ)
onto_front a [] = a ∷ []
onto_front a (part ∷ more) = (a ++ part) ∷ more

byte_in_front : (b : ℕ) (a : List ℕ) (parts : List (List ℕ)) → onto_first b (onto_front a parts) ≡ onto_front (b ∷ a) parts
byte_in_front b a [] = refl
byte_in_front b a (part ∷ more) = refl

one_in_front : (b : ℕ) (parts : List (List ℕ)) → onto_first b parts ≡ onto_front (b ∷ []) parts
one_in_front b [] = refl
one_in_front b (part ∷ more) = refl

-- A text is whole if the parts behind it go on through it.
abbrev IsWhole : List ℕ → Type 0
IsWhole text = (rest : List ℕ) → parts_from false (text ++ rest) ≡ onto_front text (parts_from false rest)

no_quote : (x : ℕ) → is_free x ≡ true → (x == 39) ≡ false
no_quote x h = grind (arith, tests)

no_comma : (x : ℕ) → is_free x ≡ true → (x == 44 && not false) ≡ false
no_comma x h = grind (arith, tests)

free_whole : (a : List ℕ) → IsFree a → IsWhole a
free_whole [] h rest = let s = some_part false rest in s.2 ∙ ap (onto_front []) (sym s.2)
free_whole (x ∷ a) h rest =
    let first = first_free x a h in
    other_cuts x false (a ++ rest) (no_quote x first) (no_comma x first)
    ∙ (ap (onto_first x) (free_whole a (rest_free x a h) rest) ∙ byte_in_front x a (parts_from false rest))

text_first : (x : ℕ) (t : List ℕ) → list_all is_text_byte (x ∷ t) ≡ true → (x == 39) ≡ false
text_first x t h = grind (arith, tests)

text_rest : (x : ℕ) (t : List ℕ) → list_all is_text_byte (x ∷ t) ≡ true → list_all is_text_byte t ≡ true
text_rest x t h = grind (arith, tests)

to_quote : (t rest : List ℕ) → list_all is_text_byte t ≡ true →
    parts_from true (t ++ 39 ∷ rest) ≡ onto_front (t ++ 39 ∷ []) (parts_from false rest)
to_quote [] rest h = quote_cuts 39 true rest refl ∙ one_in_front 39 (parts_from false rest)
to_quote (x ∷ t) rest h =
    other_cuts x true (t ++ 39 ∷ rest) (text_first x t h) (and_not_true (x == 44))
    ∙ (ap (onto_first x) (to_quote t rest (text_rest x t h)) ∙ byte_in_front x (t ++ 39 ∷ []) (parts_from false rest))

text_whole : (t : List ℕ) → list_all is_text_byte t ≡ true → IsWhole (written_scalar handle_text (scalar.Text t))
text_whole t h rest =
    ap (λ l. parts_from false (39 ∷ l)) (append_assoc t (39 ∷ []) rest)
    ∙ (quote_cuts 39 false (t ++ 39 ∷ rest) refl ∙ (ap (onto_first 39) (to_quote t rest h) ∙ byte_in_front 39 (t ++ 39 ∷ []) (parts_from false rest)))

scalar_whole : (s : Scalar) → IsSpelled s → IsWhole (written_scalar handle_text s)
scalar_whole scalar.None h = free_whole (written_scalar handle_text scalar.None) (part_free scalar.None h)
scalar_whole (scalar.Bool truth) h = free_whole (written_scalar handle_text (scalar.Bool truth)) (part_free (scalar.Bool truth) h)
scalar_whole (scalar.Int number) h = free_whole (written_scalar handle_text (scalar.Int number)) (part_free (scalar.Int number) h)
scalar_whole (scalar.Text text) h = text_whole text (each_text_byte text h)
scalar_whole (scalar.Bytes bytes) h = free_whole (written_scalar handle_text (scalar.Bytes bytes)) (part_free (scalar.Bytes bytes) h)
scalar_whole scalar.Ellipsis h = free_whole (written_scalar handle_text scalar.Ellipsis) (part_free scalar.Ellipsis h)
scalar_whole (scalar.Handle handle) h = free_whole (written_scalar handle_text (scalar.Handle handle)) (part_free (scalar.Handle handle) h)

onto_fronts : (a b : List ℕ) (parts : List (List ℕ)) → onto_front a (onto_front b parts) ≡ onto_front (a ++ b) parts
onto_fronts a b [] = refl
onto_fronts a b (part ∷ more) = ap (λ first. first ∷ more) (sym (append_assoc a b part))

both_whole : (a b : List ℕ) → IsWhole a → IsWhole b → IsWhole (a ++ b)
both_whole a b h k rest =
    ap (parts_from false) (append_assoc a b rest)
    ∙ (h (b ++ rest) ∙ (ap (onto_front a) (k rest) ∙ onto_fronts a b (parts_from false rest)))

colon_whole : (a : List ℕ) → IsWhole a → IsWhole (58 ∷ a)
colon_whole a h rest = other_cuts 58 false (a ++ rest) refl refl ∙ (ap (onto_first 58) (h rest) ∙ byte_in_front 58 a (parts_from false rest))

slice_whole : (s : PySlice) → IsSpelledSlice s → IsWhole (written_slice handle_text s)
slice_whole s h =
    both_whole (written_scalar handle_text s.start) (58 ∷ written_scalar handle_text s.stop ++ 58 ∷ written_scalar handle_text s.step) (free_whole (written_scalar handle_text s.start) (part_free s.start h.0))
    (colon_whole (written_scalar handle_text s.stop ++ 58 ∷ written_scalar handle_text s.step)
    (both_whole (written_scalar handle_text s.stop) (58 ∷ written_scalar handle_text s.step) (free_whole (written_scalar handle_text s.stop) (part_free s.stop h.1))
    (colon_whole (written_scalar handle_text s.step) (free_whole (written_scalar handle_text s.step) (part_free s.step h.2)))))

whole_before : (text rest : List ℕ) → IsWhole text → parts_from false (text ++ 44 ∷ rest) ≡ text ∷ parts_from false rest
whole_before text rest h = h (44 ∷ rest) ∙ ap (λ part. part ∷ parts_from false rest) (append-nil text)

whole_last : (text : List ℕ) → IsWhole text → parts_from false text ≡ text ∷ []
whole_last text h = sym (ap (parts_from false) (append-nil text)) ∙ (h [] ∙ ap (λ part. part ∷ []) (append-nil text))

all_whole : {A : Type 0} (text : A → List ℕ) (P : A → Type 0) → ((a : A) → P a → IsWhole (text a)) → (a : A) (more : List A) →
    AllByRecursion P (a ∷ more) → parts_outside_quotes (written_parts text (a ∷ more)) ≡ map text (a ∷ more)
all_whole text P whole a [] h = whole_last (text a) (whole a h.0)
all_whole text P whole a (b ∷ more) h =
    whole_before (text a) (written_parts text (b ∷ more)) (whole a h.0) ∙ ap (λ parts. text a ∷ parts) (all_whole text P whole b more h.1)

each_read : {A : Type 0} (text : A → List ℕ) (read : List ℕ → Option A) (P : A → Type 0) → ((a : A) → P a → read (text a) ≡ Some a) →
    (all : List A) → AllByRecursion P all → each read (map text all) ≡ Some all
each_read text read P reads [] h = refl
each_read text read P reads (a ∷ more) h = rw (reads a h.0, each_read text read P reads more h.1) refl

some_scalars : (text : List ℕ) (parts : List (List ℕ)) (all : List Scalar) → parts_outside_quotes text ≡ parts → each (scalar_in handle_in) parts ≡ Some all →
    scalars_in handle_in text ≡ Some all
unfolding constant_in
some_scalars [] parts all e h =
    let none : each (scalar_in handle_in) ([] ∷ []) ≡ None = refl in
    let no : ⊥ = cc in
    absurd no
some_scalars (b ∷ rest) parts all e h = ap (each (scalar_in handle_in)) e ∙ h

scalars_reads : (all : List Scalar) → AllByRecursion IsSpelled all → scalars_in handle_in (written_parts (written_scalar handle_text) all) ≡ Some all
scalars_reads [] h = refl
scalars_reads (a ∷ more) h =
    some_scalars (written_parts (written_scalar handle_text) (a ∷ more)) (map (written_scalar handle_text) (a ∷ more)) (a ∷ more) (all_whole (written_scalar handle_text) IsSpelled scalar_whole a more h)
    (each_read (written_scalar handle_text) (scalar_in handle_in) IsSpelled scalars_read (a ∷ more) h)

slices_reads : (s : PySlice) (more : List PySlice) → AllByRecursion IsSpelledSlice (s ∷ more) →
    slices_in handle_in (written_parts (written_slice handle_text) (s ∷ more)) ≡ Some (s ∷ more)
slices_reads s more h =
    ap (each (slice_in handle_in)) (all_whole (written_slice handle_text) IsSpelledSlice slice_whole s more h)
    ∙ each_read (written_slice handle_text) (slice_in handle_in) IsSpelledSlice slice_reads (s ∷ more) h

-- A value without parts has a colon only between quotes.
abbrev has_colon : List ℕ → Bool
has_colon text = list_any (λ b. b == 58) text

or_true : (b : Bool) → (b || true) ≡ true
or_true true = refl
or_true false = refl

colon_there : (a rest : List ℕ) → has_colon (a ++ 58 ∷ rest) ≡ true
colon_there [] rest = refl
colon_there (x ∷ a) rest = ap (λ b. (x == 58) || b) (colon_there a rest) ∙ or_true (x == 58)

colon_step : (p : ℕ → Bool) (x : ℕ) (xs : List ℕ) (same : Bool) → (x == 58) ≡ same → p 58 ≡ false → (same || has_colon xs) ≡ true →
    (has_colon xs ≡ true → list_all p xs ≡ false) → (p x && list_all p xs) ≡ false
colon_step p x xs true e refused h later = ap (λ b. b && list_all p xs) (ap p (passed_numbers_are_equal x 58 e) ∙ refused)
colon_step p x xs false e refused h later = ap (λ b. p x && b) (later h) ∙ and_false (p x)

not_all : (p : ℕ → Bool) → p 58 ≡ false → (text : List ℕ) → has_colon text ≡ true → list_all p text ≡ false
not_all p refused [] h = cc
not_all p refused (x ∷ xs) h = colon_step p x xs (x == 58) refl refused h (not_all p refused xs)

after_first : (x n : ℕ) (xs : List ℕ) → (x == n) ≡ true → (n == 58) ≡ false → has_colon (x ∷ xs) ≡ true → has_colon xs ≡ true
after_first x n xs e other h = sym (ap (λ b. b || has_colon xs) (ap (λ y. y == 58) (passed_numbers_are_equal x n e) ∙ other)) ∙ h

other_by : (text name : List ℕ) (same : Bool) → bytes_eq text name ≡ same → has_colon text ≡ true → has_colon name ≡ false → same ≡ false
other_by text name true e h k =
    let all : has_colon text ≡ has_colon name = ap has_colon (same_bytes text name e) in
    let no : ⊥ = cc in
    absurd no
other_by text name false e h k = refl

other_text : (text name : List ℕ) → has_colon text ≡ true → has_colon name ≡ false → bytes_eq text name ≡ false
other_text text name h k = other_by text name (bytes_eq text name) refl h k

no_name : (text : List ℕ) → has_colon text ≡ true → constant_in text ≡ None
unfolding constant_in
no_name text h =
    rw (
      other_text text (codes "None") h refl,
      other_text text (codes "True") h refl,
      other_text text (codes "False") h refl,
      other_text text (codes "...") h refl,
    ) refl

no_digits : (text : List ℕ) → has_colon text ≡ true → is_number text ≡ false
no_digits [] h = refl
no_digits (x ∷ xs) h = let other = not_all is_ascii_digit refl (x ∷ xs) h in grind (arith, tests, other)

none_below : (bound : ℕ) (text : List ℕ) → has_colon text ≡ true → number_below bound text ≡ None
none_below bound text h = rw (no_digits text h) refl

whole_by : (x : ℕ) (xs : List ℕ) (sign : Bool) → (x == 45) ≡ sign → has_colon (x ∷ xs) ≡ true → cond sign (negative_in xs) (positive_in (x ∷ xs)) ≡ None
whole_by x xs true e h = rw (none_below (2 ^ 127 + 1) xs (after_first x 45 xs e refl h)) refl
whole_by x xs false e h = rw (none_below (2 ^ 127) (x ∷ xs) h) refl

no_whole : (text : List ℕ) → has_colon text ≡ true → whole_in text ≡ None
no_whole [] h = refl
no_whole (x ∷ xs) h = whole_by x xs (x == 45) refl h

handle_by : (x : ℕ) (xs : List ℕ) (same : Bool) → (x == 104) ≡ same → has_colon (x ∷ xs) ≡ true → cond same (number_below (2 ^ 64) xs) None ≡ None
handle_by x xs true e h = none_below (2 ^ 64) xs (after_first x 104 xs e refl h)
handle_by x xs false e h = refl

no_handle : (text : List ℕ) → has_colon text ≡ true → handle_in text ≡ None
no_handle [] h = refl
no_handle (x ∷ xs) h = handle_by x xs (x == 104) refl h

none_decoded : (text : List ℕ) (r : Result (List ℕ) FromHexError) → decode_of text ≡ r → has_colon text ≡ true → bytes_decoded r ≡ None
none_decoded text (Ok bytes) e h =
    let digits = list_all-from_AllPass is_hex_digit text (decode_of-ok text bytes e).1 in
    let other = not_all is_hex_digit refl text h in
    let no : ⊥ = cc in
    absurd no
none_decoded text (Err why) e h = refl

bytes_by : (x : ℕ) (xs : List ℕ) (same : Bool) → (x == 120) ≡ same → has_colon (x ∷ xs) ≡ true → cond same (bytes_decoded (decode_of xs)) None ≡ None
bytes_by x xs true e h = none_decoded xs (decode_of xs) refl (after_first x 120 xs e refl h)
bytes_by x xs false e h = refl

no_bytes : (text : List ℕ) → has_colon text ≡ true → bytes_in text ≡ None
no_bytes [] h = refl
no_bytes (x ∷ xs) h = let none = bytes_by x xs (x == 120) refl h in grind (arith, tests, none)

no_plain : (text : List ℕ) → has_colon text ≡ true → plain_in handle_in text ≡ None
no_plain text h = rw (no_name text h, no_whole text h, no_handle text h, no_bytes text h) refl

no_text : (a rest : List ℕ) → IsFree a → text_in (a ++ 58 ∷ rest) ≡ None
no_text [] rest h = refl
no_text (x ∷ a) rest h = rw (no_quote x (first_free x a h)) refl

slice_no_scalar : (s : PySlice) → IsSpelledSlice s → scalar_in handle_in (written_slice handle_text s) ≡ None
slice_no_scalar s h =
    let rest = written_scalar handle_text s.stop ++ 58 ∷ written_scalar handle_text s.step in
    rw (no_plain (written_slice handle_text s) (colon_there (written_scalar handle_text s.start) rest), no_text (written_scalar handle_text s.start) rest (part_free s.start h.0)) refl

-- A text that begins with a bracket is neither a value without parts nor a slice.
bracket_no_plain : (b : ℕ) → (b ≡ 40) ⊎ (b ≡ 91) → (rest : List ℕ) → plain_in handle_in (b ∷ rest) ≡ None
unfolding constant_in
bracket_no_plain b (inl e) rest = rw (e, no_number 40 rest refl refl) refl
bracket_no_plain b (inr e) rest = rw (e, no_number 91 rest refl refl) refl

bracket_no_scalar : (b : ℕ) → (b ≡ 40) ⊎ (b ≡ 91) → (rest : List ℕ) → scalar_in handle_in (b ∷ rest) ≡ None
bracket_no_scalar b (inl e) rest = rw (bracket_no_plain b (inl e) rest, e) refl
bracket_no_scalar b (inr e) rest = rw (bracket_no_plain b (inr e) rest, e) refl

no_parts : (b : ℕ) (first : List ℕ) (more : List (List ℕ)) → plain_in handle_in (b ∷ first) ≡ None → slice_of handle_in ((b ∷ first) ∷ more) ≡ None
no_parts b first [] h = refl
no_parts b first (stop ∷ []) h = refl
no_parts b first (stop ∷ step ∷ []) h = rw h refl
no_parts b first (stop ∷ step ∷ other ∷ more) h = refl

not_colon : (b : ℕ) → (b ≡ 40) ⊎ (b ≡ 91) → is_free b ≡ true
not_colon b (inl e) = rw e refl
not_colon b (inr e) = rw e refl

bracket_no_slice : (b : ℕ) → (b ≡ 40) ⊎ (b ≡ 91) → (rest : List ℕ) → slice_in handle_in (b ∷ rest) ≡ None
bracket_no_slice b is rest =
    let s = colon_part (λ b. b == 58) rest in
    ap (slice_of handle_in) (byte_on b rest (not_colon b is) ∙ ap (onto_first b) s.2) ∙ no_parts b s.0 s.1 (bracket_no_plain b is s.0)

tuple_reads : (parts : List Scalar) → AllByRecursion IsSpelled parts → tuple_in handle_in (written_value handle_text (value.Tuple parts)) ≡ Some (value.Tuple parts)
tuple_reads parts h = rw (enclosed_read 40 41 (written_parts (written_scalar handle_text) parts), scalars_reads parts h) refl

list_reads : (parts : List Scalar) → AllByRecursion IsSpelled parts → list_in handle_in (written_value handle_text (value.List parts)) ≡ Some (value.List parts)
list_reads parts h = rw (enclosed_read 91 93 (written_parts (written_scalar handle_text) parts), scalars_reads parts h) refl

none_of : (text first : List ℕ) (more : List (List ℕ)) → parts_outside_quotes text ≡ first ∷ more → has_colon first ≡ true → scalar_in handle_in first ≡ None →
    scalars_in handle_in text ≡ None
none_of [] first more e colon h =
    let is : first ≡ [] = cc in
    let without : has_colon first ≡ false = ap has_colon is in
    let no : ⊥ = cc in
    absurd no
none_of (b ∷ rest) first more e colon h = ap (each (scalar_in handle_in)) e ∙ rw h refl

no_scalars : (s : PySlice) (more : List PySlice) → AllByRecursion IsSpelledSlice (s ∷ more) → scalars_in handle_in (written_parts (written_slice handle_text) (s ∷ more)) ≡ None
no_scalars s more h =
    none_of (written_parts (written_slice handle_text) (s ∷ more)) (written_slice handle_text s) (map (written_slice handle_text) more)
    (all_whole (written_slice handle_text) IsSpelledSlice slice_whole s more h) (colon_there (written_scalar handle_text s.start) (written_scalar handle_text s.stop ++ 58 ∷ written_scalar handle_text s.step))
    (slice_no_scalar s h.0)

slices_no_tuple : (s : PySlice) (more : List PySlice) → AllByRecursion IsSpelledSlice (s ∷ more) → tuple_in handle_in (written_value handle_text (value.Slices (s ∷ more))) ≡ None
slices_no_tuple s more h = rw (enclosed_read 40 41 (written_parts (written_slice handle_text) (s ∷ more)), no_scalars s more h) refl

slices_read : (s : PySlice) (more : List PySlice) → AllByRecursion IsSpelledSlice (s ∷ more) →
    tuple_of_slices_in handle_in (written_value handle_text (value.Slices (s ∷ more))) ≡ Some (value.Slices (s ∷ more))
slices_read s more h = rw (enclosed_read 40 41 (written_parts (written_slice handle_text) (s ∷ more)), slices_reads s more h) refl

pub values_read : ValuesReadBack
unfolding value_in
values_read (value.One one) h = rw (scalars_read one h) refl
values_read (value.Slice slice) h = rw (slice_no_scalar slice h, slice_reads slice h) refl
values_read (value.Tuple parts) h =
    let rest = written_parts (written_scalar handle_text) parts ++ 41 ∷ [] in
    rw (bracket_no_scalar 40 (inl refl) rest, bracket_no_slice 40 (inl refl) rest, tuple_reads parts h) refl
values_read (value.List parts) h =
    let rest = written_parts (written_scalar handle_text) parts ++ 93 ∷ [] in
    rw (bracket_no_scalar 91 (inr refl) rest, bracket_no_slice 91 (inr refl) rest, list_reads parts h) refl
values_read (value.Slices []) h = absurd (omega (arith, h.0))
values_read (value.Slices (s ∷ more)) h =
    let rest = written_parts (written_slice handle_text) (s ∷ more) ++ 41 ∷ [] in
    rw (bracket_no_scalar 40 (inl refl) rest, bracket_no_slice 40 (inl refl) rest, slices_no_tuple s more h.1, slices_read s more h.1) refl

-- What the formats of a log read.
use Rattle.std.proofs.lemmas.List.{drop-take, length-take-le}
use Rattle.std.specs.List.{All}
use Rattle.std.specs.Prelude.{nat_lt, Bool, ◌-ℤ◌, nat_le, if◌then◌else◌, slice_index_or, FitsSigned}
use Rattle.std.specs.Int.{w8, w16}
use Rattle.std.proofs.lemmas.List.{get_or_default}
use Rattle.std.proofs.lemmas.Bool.{leb-true, leb-false, le-leb}
use Rattle.std.proofs.lemmas.Int.{ints}
use Rattle.std.proofs.lemmas.Bool.Decides.{nat_tests}
use Rattle.std.proofs.lemmas.List.Elements.{All-take, All-drop}
use Rattle.pybuf_value.specs.declared.faults.Fault.{Fault}
use Rattle.pybuf_value.specs.declared.faults.Fault.TheVariants as fault
use Rattle.example_users.proofs.DigitLemmas.{little_endian-below}
use Rattle.std.proofs.Common.{Fits, Err, length-drop, ◌≡◌, ℕ, suc, zero, ◌+◌, ◌-◌, ◌*◌, ◌<◌, ◌≤◌, ◌^◌, ◌==◌, pos, true, false, List, [], ◌∷◌, length, take, drop, refl, arith, ap, sym, ◌∙◌, Ok, ℤ, codes}
use Rattle.pybuf_value.specs.declared.values.Scalar.{Scalar}
use Rattle.pybuf_value.specs.declared.values.Scalar.TheVariants as scalar
use Rattle.pybuf_struct.specs.Digits.{little_endian, number}
use Rattle.pybuf_value.specs.Making.{so_many_numbers}
use Rattle.pybuf_value.specs.Refusing.{◌>>=◌}
use Rattle.pybuf_struct.specs.Formats.{Format, format_of, codes_in, layout_from, format_after_prefix}
use Rattle.pybuf_struct.specs.Offsets.{unpacked_from}
use Rattle.pybuf_struct.specs.Values.{unpacked_values}
use Rattle.pybuf_struct.specs.Singles.{values_by}
use Rattle.pybuf_desc.specs.Items.{bytes_at}
use Rattle.example_users.specs.Log.{header_of, reading_of}

take_less : (m j : ℕ) (xs : List ℕ) → m ≤ j → take m (take j xs) ≡ take m xs
take_less zero j xs less = refl
take_less (suc m) zero xs less = absurd (omega arith)
take_less (suc m) (suc j) [] less = refl
take_less (suc m) (suc j) (x ∷ xs) less = ap (λ rest. x ∷ rest) (take_less m j xs (omega arith))

-- The bytes lie among the first `head`.
pub in_head : (file : List ℕ) (size start head : ℕ) → start + size ≤ head → bytes_at (take head file) size start ≡ bytes_at file size start
in_head file size start head inside =
    let whole : head ≡ start + (head - start) = omega arith in
    ap (λ n. take size (drop start (take n file))) whole
    ∙ (ap (λ xs. take size xs) (drop-take start (head - start) file) ∙ take_less size (head - start) (drop start file) (omega arith))

-- the values of a header, by its format
header_values : List ℕ → List Scalar
header_values head = scalar.Int (pos (little_endian 0 (bytes_at head 2 4))) ∷ scalar.Int (pos (little_endian 0 (bytes_at head 4 6))) ∷ []

header_read : (file : List ℕ) → 10 ≤ length file → (format_of (codes "<4xHI") >>= λ format. unpacked_from format 0 file) ≡ Ok (header_values (take 10 file))
unfolding codes_in layout_from format_after_prefix header_values
header_read file long = rw (le-leb 10 (length file) long, length-take-le 10 file long) refl

header_short : (file : List ℕ) → nat_le 10 (length file) ≡ false → (format_of (codes "<4xHI") >>= λ format. unpacked_from format 0 file) ≡ Err fault.Struct
unfolding codes_in layout_from format_after_prefix
header_short file short = rw short refl

-- The format of a header is a format.
pub header_format : (f : Fault) → format_of (codes "<4xHI") ≡ Err f → ⊥
unfolding codes_in layout_from format_after_prefix
header_format f same = cc

header_values_of : (file : List ℕ) → 10 ≤ length file → header_values (take 10 file) ≡ header_values file
unfolding header_values
header_values_of file long =
    λ i. scalar.Int (pos (little_endian 0 (in_head file 2 4 10 (omega arith) i))) ∷ scalar.Int (pos (little_endian 0 (in_head file 4 6 10 (omega arith) i))) ∷ []

read_of : (file : List ℕ) (format : Format) → format_of (codes "<4xHI") ≡ Ok format → unpacked_from format 0 file ≡ (format_of (codes "<4xHI") >>= λ f. unpacked_from f 0 file)
read_of file format parsed = ap (λ r. r >>= λ f. unpacked_from f 0 file) (sym parsed)

refused_by : (file : List ℕ) (format : Format) (f : Fault) (b : Bool) → nat_le 10 (length file) ≡ b → format_of (codes "<4xHI") ≡ Ok format → unpacked_from format 0 file ≡ Err f → header_of file ≡ Err f
refused_by file format f true test parsed read =
    let given : Err f ≡ Ok (header_values (take 10 file)) = sym read ∙ (read_of file format parsed ∙ header_read file (leb-true 10 (length file) test)) in
    absurd cc
refused_by file format f false test parsed read =
    let given = sym read ∙ (read_of file format parsed ∙ header_short file test) in
    let same : f ≡ fault.Struct = cc in
    let short : nat_lt (length file) 10 ≡ true = grind (arith, nat_tests) in
    rw (short, same) refl

-- A file that is too short for the format of a header has no header.
pub header_refused : (file : List ℕ) (format : Format) (f : Fault) → format_of (codes "<4xHI") ≡ Ok format → unpacked_from format 0 file ≡ Err f → header_of file ≡ Err f
header_refused file format f parsed read = refused_by file format f (nat_le 10 (length file)) refl parsed read

long_by : (file : List ℕ) (format : Format) (values : List Scalar) (b : Bool) → nat_le 10 (length file) ≡ b → format_of (codes "<4xHI") ≡ Ok format → unpacked_from format 0 file ≡ Ok values → 10 ≤ length file
long_by file format values true test parsed read = leb-true 10 (length file) test
long_by file format values false test parsed read =
    let given = sym read ∙ (read_of file format parsed ∙ header_short file test) in
    absurd cc

-- The numbers that are told are those that are there.
pub told_numbers : (values : List Scalar) (count : ℕ) (numbers others : List ℤ) → Ok numbers ≡ so_many_numbers count values → so_many_numbers count values ≡ Ok others → numbers ≡ others
told_numbers values count numbers others told are = let both : Ok numbers ≡ Ok others = told ∙ are in cc

pub first_of : (numbers : List ℤ) (a : ℤ) (rest : List ℤ) → numbers ≡ a ∷ rest → slice_index_or numbers 0 (pos 0) ≡ a
first_of numbers a rest is = ap (λ ns. slice_index_or ns 0 (pos 0)) is

pub second_of : (numbers : List ℤ) (a b : ℤ) (rest : List ℤ) → numbers ≡ a ∷ b ∷ rest → slice_index_or numbers 1 (pos 0) ≡ b
second_of numbers a b rest is = ap (λ ns. slice_index_or ns 1 (pos 0)) is

pub third_of : (numbers : List ℤ) (a b c : ℤ) (rest : List ℤ) → numbers ≡ a ∷ b ∷ c ∷ rest → slice_index_or numbers 2 (pos 0) ≡ c
third_of numbers a b c rest is = ap (λ ns. slice_index_or ns 2 (pos 0)) is

-- the values of a header that was read
pub header_is_read : (file : List ℕ) (format : Format) (values : List Scalar) → format_of (codes "<4xHI") ≡ Ok format → unpacked_from format 0 file ≡ Ok values
    → (10 ≤ length file) × (so_many_numbers 2 values ≡ Ok (pos (little_endian 0 (bytes_at file 2 4)) ∷ pos (little_endian 0 (bytes_at file 4 6)) ∷ []))
unfolding header_values
header_is_read file format values parsed read =
    let long : 10 ≤ length file = long_by file format values (nat_le 10 (length file)) refl parsed read in
    let both : Ok values ≡ Ok (header_values file) = sym read ∙ (read_of file format parsed ∙ (header_read file long ∙ ap Ok (header_values_of file long))) in
    let same : values ≡ header_values file = cc in
    (long, ap (so_many_numbers 2) same)

-- what the format of a reading reads of seven bytes
pub reading_read : (bytes : List ℕ) → length bytes ≡ 7
    → values_by (codes "<IhB") bytes ≡ Ok (scalar.Int (pos (little_endian 0 (bytes_at bytes 4 0))) ∷ scalar.Int (number false true (bytes_at bytes 2 4)) ∷ scalar.Int (pos (little_endian 0 (bytes_at bytes 1 6))) ∷ [])
unfolding codes_in layout_from format_after_prefix
reading_read bytes seven = rw seven refl

-- what that format does with any other number of bytes
pub reading_refused : (bytes : List ℕ) → (length bytes == 7) ≡ false → values_by (codes "<IhB") bytes ≡ Err fault.Struct
unfolding codes_in layout_from format_after_prefix
reading_refused bytes other = rw other refl

below : (bytes : List ℕ) (size start : ℕ) → All (λ b. b < 256) bytes → start + size ≤ length bytes → little_endian 0 (bytes_at bytes size start) < 256 ^ size
below bytes size start small inside =
    let long : length (bytes_at bytes size start) ≡ size = length-take-le size (drop start bytes) (simp length-drop (omega arith)) in
    let all : All (λ b. b < 256) (bytes_at bytes size start) = All-take (λ b. b < 256) size (drop start bytes) (All-drop (λ b. b < 256) start bytes small) in
    let most : little_endian 0 (bytes_at bytes size start) + 256 ^ 0 ≤ 256 ^ (0 + length (bytes_at bytes size start)) = little_endian-below 0 (bytes_at bytes size start) all in
    let width : 256 ^ (0 + length (bytes_at bytes size start)) ≡ 256 ^ size = ap (λ n. 256 ^ n) (omega arith) in
    omega arith

under : (bytes : List ℕ) → ((i : ℕ) → Fits w8 (slice_index_or bytes i 0)) → All (λ b. b < 256) bytes
under bytes fits k d inside = let here : Fits w8 (slice_index_or bytes k 0) = fits k in rw (get_or_default bytes k d 0 inside) (omega arith)

-- A number that has so many bytes of a file fits into as many.
pub number_fits : (bytes : List ℕ) → ((i : ℕ) → Fits w8 (slice_index_or bytes i 0)) → (size start : ℕ) → start + size ≤ length bytes → little_endian 0 (bytes_at bytes size start) < 256 ^ size
number_fits bytes fits size start inside = below bytes size start (under bytes fits) inside

seven_by : (bytes : List ℕ) (values : List Scalar) (b : Bool) → (length bytes == 7) ≡ b → values_by (codes "<IhB") bytes ≡ Ok values → length bytes ≡ 7
seven_by bytes values true test read = grind (arith, nat_tests)
seven_by bytes values false test read = absurd (cc (reading_refused bytes test))

-- What is read has seven bytes.
pub reading_of_seven : (bytes : List ℕ) (values : List Scalar) → values_by (codes "<IhB") bytes ≡ Ok values → length bytes ≡ 7
reading_of_seven bytes values read = seven_by bytes values (length bytes == 7) refl read

-- The format of a reading is a format.
pub reading_format : (f : Fault) → format_of (codes "<IhB") ≡ Err f → ⊥
unfolding codes_in layout_from format_after_prefix
reading_format f same = cc

unread_by : (bytes : List ℕ) (format : Format) (f : Fault) (b : Bool) → (length bytes == 7) ≡ b → format_of (codes "<IhB") ≡ Ok format → unpacked_values format bytes ≡ Err f → reading_of bytes ≡ Err f
unread_by bytes format f true test parsed read =
    let by : values_by (codes "<IhB") bytes ≡ Err f = rw parsed read in
    let seven : length bytes ≡ 7 = grind (arith, nat_tests) in
    let given = sym by ∙ reading_read bytes seven in
    absurd cc
unread_by bytes format f false test parsed read =
    let by : values_by (codes "<IhB") bytes ≡ Err f = rw parsed read in
    let given = sym by ∙ reading_refused bytes test in
    let same : f ≡ fault.Struct = cc in
    rw (test, same) refl

-- Another number of bytes is no reading.
pub reading_unread : (bytes : List ℕ) (format : Format) (f : Fault) → format_of (codes "<IhB") ≡ Ok format → unpacked_values format bytes ≡ Err f → reading_of bytes ≡ Err f
reading_unread bytes format f parsed read = unread_by bytes format f (length bytes == 7) refl parsed read

-- the values of a reading
pub reading_is_read : (bytes : List ℕ) (format : Format) (values : List Scalar) → format_of (codes "<IhB") ≡ Ok format → unpacked_values format bytes ≡ Ok values
    → (length bytes ≡ 7) × (so_many_numbers 3 values ≡ Ok (pos (little_endian 0 (bytes_at bytes 4 0)) ∷ number false true (bytes_at bytes 2 4) ∷ pos (little_endian 0 (bytes_at bytes 1 6)) ∷ []))
reading_is_read bytes format values parsed read =
    let by : values_by (codes "<IhB") bytes ≡ Ok values = rw parsed read in
    let seven : length bytes ≡ 7 = reading_of_seven bytes values by in
    let same : values ≡ scalar.Int (pos (little_endian 0 (bytes_at bytes 4 0))) ∷ scalar.Int (number false true (bytes_at bytes 2 4)) ∷ scalar.Int (pos (little_endian 0 (bytes_at bytes 1 6))) ∷ [] = cc (reading_read bytes seven) in
    (seven, ap (so_many_numbers 3) same)

signed_by : (b : Bool) (n : ℕ) → nat_le 65536 (2 * n) ≡ b → n < 2 ^ 16 → FitsSigned w16 (if b then pos n -ℤ pos 65536 else pos n)
signed_by true n test small = let high : 65536 ≤ 2 * n = leb-true _ _ test in omega (arith, ints)
signed_by false n test small = let low : 2 * n < 65536 = leb-false _ _ test in omega (arith, ints)

-- A number of two bytes with a sign fits into two.
pub signed_fits : (bytes : List ℕ) → ((i : ℕ) → Fits w8 (slice_index_or bytes i 0)) → (start : ℕ) → start + 2 ≤ length bytes → FitsSigned w16 (number false true (bytes_at bytes 2 start))
signed_fits bytes fits start inside =
    let long : length (bytes_at bytes 2 start) ≡ 2 = length-take-le 2 (drop start bytes) (simp length-drop (omega arith)) in
    rw long (signed_by (nat_le 65536 (2 * little_endian 0 (bytes_at bytes 2 start))) (little_endian 0 (bytes_at bytes 2 start)) refl (number_fits bytes fits 2 start inside))

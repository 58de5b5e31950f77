-- Numbers of a code and their bytes.
use Rattle.std.proofs.Common.{◌≡◌, ℕ, zero, suc, ◌+◌, ◌-◌, ◌*◌, ◌/◌, ◌<◌, ◌≤◌, List, [], ◌∷◌, ◌++◌, length, take, drop, get_or, refl, sym, ap, subst, ltb, ◌∙◌, arith, ℤ, slice_get, Some}
use Rattle.std.specs.Prelude.{Bool, true, false, set, reverse, IsTrue}
use Rattle.std.specs.Int.{bytes_low_first}
use Rattle.std.proofs.Math.Nat.{mul-le-mul_left, mul-div-le, mul-suc}
use Rattle.std.proofs.lemmas.Bool.{ltb-true, ltb-false}
use Rattle.std.proofs.lemmas.List.{set_split, length-reverse, get_or-reverse, get_or_past, drop-drop}
use Rattle.pybuf_lemmas.proofs.Numbers.{length_low_first}
use Rattle.pybuf_numbers.specs.Facts.{length_of_numbers, no_array_items_whole, numbers_of_none}
use Rattle.pybuf_struct.specs.Facts.{digits_again, halved, complement_fits, signed_again, reads_back, signed_back}
use Rattle.pybuf_struct.specs.Digits.{signed_as, unsigned_number}
use Rattle.pybuf_struct.specs.Packing.{complement_of}
use Rattle.pybuf_slice.specs.Edits.{replaced_range}
use Rattle.pybuf_numbers.specs.declared.codes.ArrayCode.{ArrayCode}
use Rattle.pybuf_numbers.specs.Codes.{size_of, is_signed, holds}
use Rattle.pybuf_numbers.specs.Numbers.{number_in, digits_of, numbers_of, is_whole}
use Rattle.pybuf_numbers.proofs.Sizes.{some_size, is_a_width}
use Rattle.pybuf_numbers.proofs.Edited.{spelled_at, spelled_edit, whole_edit, spelled_append, whole_append, spelled_one, whole_one}
use Rattle.pybuf_numbers.proofs.Digits.{IsBytes}

-- ---- one number

pub length_digits : (c : ArrayCode) (n : ℤ) → length (digits_of c n) ≡ size_of c
length_digits c n = length_low_first 0 (size_of c) (complement_of (size_of c) n)

pub number_again : (c : ArrayCode) (n : ℤ) → holds c n ≡ true → number_in c (digits_of c n) ≡ n
number_again c n fits =
    let s : ℕ = size_of c in
    let w : IsTrue _ = is_a_width c in
    ap (λ k. signed_as (is_signed c) k (unsigned_number false (digits_of c n))) (length_digits c n)
    ∙ (ap (signed_as (is_signed c) s) (digits_again s w false (complement_of s n) (complement_fits s (is_signed c) n fits))
    ∙ signed_again s (halved s w) (is_signed c) n fits)

pub record ReadPiece (c : ArrayCode) (piece : List ℕ) : Type 0 where
  pub digits : digits_of c (number_in c piece) ≡ piece
  pub fits : holds c (number_in c piece) ≡ true

pub piece_again : (c : ArrayCode) (piece : List ℕ) → length piece ≡ size_of c → IsBytes piece → ReadPiece c piece
piece_again c piece long bytes =
    let s : ℕ = size_of c in
    let w : IsTrue _ = is_a_width c in
    let n : ℕ = unsigned_number false piece in
    let read = reads_back s w false piece long bytes in
    let back = signed_back s (halved s w) (is_signed c) n read.1 in
    let same : number_in c piece ≡ signed_as (is_signed c) s n = ap (λ k. signed_as (is_signed c) k n) long in
    record {
      digits = ap (λ m. bytes_low_first 0 s (complement_of s m)) same ∙ (ap (bytes_low_first 0 s) back.1 ∙ read.0);
      fits = ap (λ m. holds c m) same ∙ back.0;
    }

-- ---- bytes below 256

low_first_bytes : (i k n : ℕ) → IsBytes (bytes_low_first i k n)
low_first_bytes i zero n j = omega arith
low_first_bytes zero (suc k) n zero = omega arith
low_first_bytes (suc i) (suc k) n zero = omega arith
low_first_bytes i (suc k) n (suc j) = low_first_bytes (suc i) k n j

pub digits_bytes : (c : ArrayCode) (n : ℤ) → IsBytes (digits_of c n)
digits_bytes c n = low_first_bytes 0 (size_of c) (complement_of (size_of c) n)

reversed_by : (xs : List ℕ) (k : ℕ) (b : Bool) → IsBytes xs → ltb k (length xs) ≡ b → get_or (reverse xs) k 0 < 256
reversed_by xs k true bytes e = subst (λ (n : ℕ). n < 256) (sym (get_or-reverse xs k 0 (ltb-true _ _ e))) (bytes (length xs - 1 - k))
reversed_by xs k false bytes e = subst (λ (n : ℕ). n < 256) (sym (get_or_past (reverse xs) k 0 (omega (arith, length-reverse xs, ltb-false _ _ e)))) (omega arith)

pub reversed_bytes : (xs : List ℕ) → IsBytes xs → IsBytes (reverse xs)
reversed_bytes xs bytes k = reversed_by xs k (ltb k (length xs)) bytes refl

-- ---- where a number lies

pub start_low : (c : ArrayCode) (bytes : List ℕ) (place : ℕ) → place ≤ length (numbers_of c bytes) → size_of c * place ≤ length bytes
start_low c bytes place there =
    omega (arith, mul-le-mul_left {m = place} {n = length bytes / size_of c} (size_of c) (omega (arith, length_of_numbers c bytes)), mul-div-le (length bytes) (size_of c))

pub start_high : (c : ArrayCode) (bytes : List ℕ) (place : ℕ) → place < length (numbers_of c bytes) → size_of c * place + size_of c ≤ length bytes
start_high c bytes place there = omega (arith, start_low c bytes (suc place) there, mul-suc (size_of c) place)

-- the number that is read from the bytes at a place
pub read_at : (c : ArrayCode) (bytes : List ℕ) (place at k : ℕ) (n : ℤ) → place < length (numbers_of c bytes) → at ≡ size_of c * place → k ≡ size_of c
    → n ≡ number_in c (take k (drop at bytes)) → slice_get (numbers_of c bytes) place ≡ Some n
read_at c bytes place at k n there start long is =
    spelled_at (number_in c) (size_of c) (some_size c) bytes place there
    ∙ ap (λ m. Some (number_in c (take m (drop (size_of c * place) bytes)))) (sym long)
    ∙ ap (λ p. Some (number_in c (take k (drop p bytes)))) (sym start)
    ∙ ap Some (sym is)

-- ---- how the numbers change

pub one_again : (c : ArrayCode) (n : ℤ) → holds c n ≡ true → numbers_of c (digits_of c n) ≡ n ∷ []
one_again c n fits = spelled_one (number_in c) (size_of c) (some_size c) (digits_of c n) (length_digits c n) ∙ ap (λ m. m ∷ []) (number_again c n fits)

pub one_whole : (c : ArrayCode) (n : ℤ) → is_whole c (digits_of c n) ≡ true
one_whole c n = whole_one (number_in c) (size_of c) (some_size c) (digits_of c n) (length_digits c n)

pub append_is : (c : ArrayCode) (bytes others : List ℕ) → is_whole c bytes ≡ true → is_whole c others ≡ true → numbers_of c (bytes ++ others) ≡ numbers_of c bytes ++ numbers_of c others
append_is c bytes others = spelled_append (number_in c) (size_of c) (some_size c) bytes others

pub append_whole : (c : ArrayCode) (bytes others : List ℕ) → is_whole c bytes ≡ true → is_whole c others ≡ true → is_whole c (bytes ++ others) ≡ true
append_whole c bytes others = whole_append (number_in c) (size_of c) (some_size c) bytes others

-- one more number at the end
pub push_is : (c : ArrayCode) (bytes digits : List ℕ) (n : ℤ) → is_whole c bytes ≡ true → holds c n ≡ true → digits ≡ digits_of c n → numbers_of c (bytes ++ digits) ≡ numbers_of c bytes ++ n ∷ []
push_is c bytes digits n whole fits same =
    ap (λ d. numbers_of c (bytes ++ d)) same ∙ (append_is c bytes (digits_of c n) whole (one_whole c n) ∙ ap (λ ns. numbers_of c bytes ++ ns) (one_again c n fits))

pub push_whole : (c : ArrayCode) (bytes digits : List ℕ) (n : ℤ) → is_whole c bytes ≡ true → digits ≡ digits_of c n → is_whole c (bytes ++ digits) ≡ true
push_whole c bytes digits n whole same = ap (λ d. is_whole c (bytes ++ d)) same ∙ append_whole c bytes (digits_of c n) whole (one_whole c n)

-- other numbers in place of those from one place up to another
pub edit_is : (c : ArrayCode) (bytes others : List ℕ) (i j at to : ℕ) → i ≤ j → j ≤ length (numbers_of c bytes) → is_whole c bytes ≡ true → is_whole c others ≡ true
    → at ≡ size_of c * i → to ≡ size_of c * j → numbers_of c (replaced_range bytes at to others) ≡ replaced_range (numbers_of c bytes) i j (numbers_of c others)
edit_is c bytes others i j at to ordered inside whole other start end =
    ap (λ p. numbers_of c (replaced_range bytes p to others)) start
    ∙ (ap (λ p. numbers_of c (replaced_range bytes (size_of c * i) p others)) end
    ∙ spelled_edit (number_in c) (size_of c) (some_size c) i j bytes others ordered (omega (arith, length_of_numbers c bytes)) whole other)

pub edit_whole : (c : ArrayCode) (bytes others : List ℕ) (i j at to : ℕ) → i ≤ j → j ≤ length (numbers_of c bytes) → is_whole c bytes ≡ true → is_whole c others ≡ true
    → at ≡ size_of c * i → to ≡ size_of c * j → is_whole c (replaced_range bytes at to others) ≡ true
edit_whole c bytes others i j at to ordered inside whole other start end =
    ap (λ p. is_whole c (replaced_range bytes p to others)) start
    ∙ (ap (λ p. is_whole c (replaced_range bytes (size_of c * i) p others)) end
    ∙ whole_edit (number_in c) (size_of c) (some_size c) i j bytes others ordered (omega (arith, length_of_numbers c bytes)) whole other)

-- a number in place of the one at a place
pub put_is : (c : ArrayCode) (bytes digits : List ℕ) (place at k : ℕ) (n : ℤ) → place < length (numbers_of c bytes) → is_whole c bytes ≡ true → holds c n ≡ true
    → digits ≡ digits_of c n → at ≡ size_of c * place → k ≡ size_of c → numbers_of c (take at bytes ++ (digits ++ drop k (drop at bytes))) ≡ set (numbers_of c bytes) place n
put_is c bytes digits place at k n there whole fits same start long =
    let next : at + k ≡ size_of c * suc place = omega (arith, mul-suc (size_of c) place) in
    ap (λ rest. numbers_of c (take at bytes ++ (digits ++ rest))) (drop-drop k at bytes)
    ∙ (ap (λ d. numbers_of c (replaced_range bytes at (at + k) d)) same
    ∙ (edit_is c bytes (digits_of c n) place (suc place) at (at + k) (omega arith) there whole (one_whole c n) start next
    ∙ (ap (λ ns. replaced_range (numbers_of c bytes) place (suc place) ns) (one_again c n fits)
    ∙ sym (set_split (numbers_of c bytes) place n there))))

-- one more number before the one at a place
pub insert_is : (c : ArrayCode) (bytes digits : List ℕ) (place at : ℕ) (n : ℤ) → place ≤ length (numbers_of c bytes) → is_whole c bytes ≡ true → holds c n ≡ true
    → digits ≡ digits_of c n → at ≡ size_of c * place → numbers_of c (replaced_range bytes at at digits) ≡ replaced_range (numbers_of c bytes) place place (n ∷ [])
insert_is c bytes digits place at n there whole fits same start =
    ap (λ d. numbers_of c (replaced_range bytes at at d)) same
    ∙ (edit_is c bytes (digits_of c n) place place at at (omega arith) there whole (one_whole c n) start start
    ∙ ap (λ ns. replaced_range (numbers_of c bytes) place place ns) (one_again c n fits))

pub insert_whole : (c : ArrayCode) (bytes digits : List ℕ) (place at : ℕ) (n : ℤ) → place ≤ length (numbers_of c bytes) → is_whole c bytes ≡ true
    → digits ≡ digits_of c n → at ≡ size_of c * place → is_whole c (replaced_range bytes at at digits) ≡ true
insert_whole c bytes digits place at n there whole same start =
    ap (λ d. is_whole c (replaced_range bytes at at d)) same
    ∙ edit_whole c bytes (digits_of c n) place place at at (omega arith) there whole (one_whole c n) start start

-- the numbers without the one at a place
pub remove_is : (c : ArrayCode) (bytes : List ℕ) (place at to : ℕ) → place < length (numbers_of c bytes) → is_whole c bytes ≡ true → at ≡ size_of c * place → to ≡ at + size_of c
    → numbers_of c (replaced_range bytes at to []) ≡ replaced_range (numbers_of c bytes) place (suc place) []
remove_is c bytes place at to there whole start end =
    edit_is c bytes [] place (suc place) at to (omega arith) there whole (no_array_items_whole c) start (omega (arith, mul-suc (size_of c) place))
    ∙ ap (λ ns. replaced_range (numbers_of c bytes) place (suc place) ns) (numbers_of_none c)

pub remove_whole : (c : ArrayCode) (bytes : List ℕ) (place at to : ℕ) → place < length (numbers_of c bytes) → is_whole c bytes ≡ true → at ≡ size_of c * place → to ≡ at + size_of c
    → is_whole c (replaced_range bytes at to []) ≡ true
remove_whole c bytes place at to there whole start end =
    edit_whole c bytes [] place (suc place) at to (omega arith) there whole (no_array_items_whole c) start (omega (arith, mul-suc (size_of c) place))

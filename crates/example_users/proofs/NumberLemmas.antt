-- Numbers that have two bytes each.
use Rattle.std.proofs.Common.{◌≡◌, ℕ, suc, zero, false, ◌+◌, ◌*◌, ◌<◌, ◌/◌, ◌%◌, ◌^◌, List, [], ◌∷◌, ◌++◌, length, refl, ap, sym, ◌∙◌, arith, slice_index, slice_get, set, Some, take, drop, get_or, length-set}
use Rattle.std.proofs.Math.Nat.{mod-eq_of_lt}
use Rattle.std.proofs.Math.Seq.{take-append_seam}
use Rattle.std.specs.Simd.{first_chunks}
use Rattle.pybuf_desc.specs.Layouts.{bytes_layout}
use Rattle.pybuf_state.specs.Exporter.{Exporter}
use Rattle.pybuf_exporter.specs.Lending.{overwritten_exporter}
use Rattle.example_users.specs.Numbers.{Numbers, numbers_of, numbers_in, IsNumberArray}

pub numbers_of-append : (bytes : List ℕ) (low high : ℕ) → length bytes ≡ 2 * length (numbers_of bytes) → numbers_of (bytes ++ low ∷ high ∷ []) ≡ numbers_of bytes ++ (low + 256 * high) ∷ []
numbers_of-append [] low high even = refl
numbers_of-append (b ∷ []) low high even = absurd (omega arith)
numbers_of-append (a ∷ b ∷ bytes) low high even = ap (λ rest. (a + 256 * b) ∷ rest) (numbers_of-append bytes low high (omega arith))

twice : (i : ℕ) → 2 * suc i ≡ suc (suc (2 * i))
twice i = omega arith

twice_more : (i : ℕ) → 2 * suc i + 1 ≡ suc (suc (2 * i + 1))
twice_more i = omega arith

-- If two bytes are replaced, so is the number that they spell.
pub numbers_of-set : (bytes : List ℕ) (i low high : ℕ) → i < length (numbers_of bytes) → numbers_of (set (set bytes (2 * i) low) (2 * i + 1) high) ≡ set (numbers_of bytes) i (low + 256 * high)
numbers_of-set [] i low high inside = absurd (omega arith)
numbers_of-set (b ∷ []) i low high inside = absurd (omega arith)
numbers_of-set (a ∷ b ∷ bytes) zero low high inside = refl
numbers_of-set (a ∷ b ∷ bytes) (suc i) low high inside =
    rw (twice_more i, twice i) (ap (λ rest. (a + 256 * b) ∷ rest) (numbers_of-set bytes i low high (omega arith)))

-- the two bytes of a number
pub two_bytes : (n : ℕ) → n < 2 ^ 16 → n % 256 + 256 * (n / 256 % 256) ≡ n
two_bytes n small = let high : n / 256 % 256 ≡ n / 256 = mod-eq_of_lt (omega arith) in rw high (omega arith)

-- If a number's two bytes are added to others, the number is added to theirs.
pub numbers_of-low_high : (bytes : List ℕ) (n : ℕ) → n < 2 ^ 16 → length bytes ≡ 2 * length (numbers_of bytes) → numbers_of (bytes ++ n % 256 ∷ n / 256 % 256 ∷ []) ≡ numbers_of bytes ++ n ∷ []
numbers_of-low_high bytes n small even = numbers_of-append bytes _ _ even ∙ ap (λ m. numbers_of bytes ++ m ∷ []) (two_bytes n small)

-- Two bytes replace those at an index.
pub put_two : (bytes : List ℕ) (i low high : ℕ) → i < length (numbers_of bytes) → take (2 * i) bytes ++ (low ∷ high ∷ drop 2 (drop (2 * i) bytes)) ≡ set (set bytes (2 * i) low) (2 * i + 1) high
put_two [] i low high inside = absurd (omega arith)
put_two (b ∷ []) i low high inside = absurd (omega arith)
put_two (a ∷ b ∷ bytes) zero low high inside = refl
put_two (a ∷ b ∷ bytes) (suc i) low high inside = rw (twice_more i, twice i) (ap (λ rest. a ∷ b ∷ rest) (put_two bytes i low high (omega arith)))

-- The pair of bytes at an index reads as this number.
pub pair_read : (bytes : List ℕ) (k i n : ℕ) (d : List ℕ) → i < k → i < length (numbers_of bytes)
    → n ≡ slice_index (get_or (first_chunks 2 k bytes) i d) 0 + slice_index (get_or (first_chunks 2 k bytes) i d) 1 * 256 → Some n ≡ slice_get (numbers_of bytes) i
pair_read [] k i n d few inside is = absurd (omega arith)
pair_read (b ∷ []) k i n d few inside is = absurd (omega arith)
pair_read (a ∷ b ∷ bytes) zero i n d few inside is = absurd (omega arith)
pair_read (a ∷ b ∷ bytes) (suc k) zero n d few inside is = ap Some (omega (arith, is))
pair_read (a ∷ b ∷ bytes) (suc k) (suc i) n d few inside is = pair_read bytes k i n d (omega arith) (omega arith) is

-- the same for an array, whose bytes are cut into pairs
pub number_read : (a : Numbers) (e : Exporter) (seen : List ℕ) (pairs : List (List ℕ)) (pair : List ℕ) (i n : ℕ) → IsNumberArray e → numbers_in e ≡ a
    → seen ≡ e.bytes → pairs ≡ first_chunks 2 (length seen / 2) seen → length pairs ≡ length seen / 2 → i < length pairs → pair ≡ get_or pairs i pair
    → n ≡ slice_index pair 0 + slice_index pair 1 * 256 → Some n ≡ slice_get a.numbers i
number_read a e seen pairs pair i n array shown bytes cut many inside at is =
    let long : length seen ≡ length e.bytes = ap (λ xs. length xs) bytes in
    let count : length pairs ≡ length (numbers_of e.bytes) = omega (arith, array.pairs) in
    let same : pairs ≡ first_chunks 2 (length seen / 2) e.bytes = cut ∙ ap (λ xs. first_chunks 2 (length seen / 2) xs) bytes in
    let found : pair ≡ get_or (first_chunks 2 (length seen / 2) e.bytes) i pair = at ∙ ap (λ ps. get_or ps i pair) same in
    pair_read e.bytes (length seen / 2) i n pair (omega arith) (omega arith)
    (is ∙ ap (λ p. slice_index p 0 + slice_index p 1 * 256) found)
    ∙ ap (λ b. slice_get b.numbers i) shown

-- an array after the two bytes of a number replaced those at an index
module _ (a : Numbers) (e : Exporter) (seen copied : List ℕ) (i n k : ℕ) (array : IsNumberArray e) (shown : numbers_in e ≡ a) (bytes : seen ≡ e.bytes) (copy : copied ≡ n % 256 ∷ n / 256 % 256 ∷ []) (two : k ≡ 2) (small : n < 2 ^ 16) (inside : i < length a.numbers) where
  abbrev pub written : List ℕ
  written = take (2 * i) seen ++ (copied ++ drop k (drop (2 * i) seen))

  within : i < length (numbers_of e.bytes)
  within = omega (arith, ap (λ b. length b.numbers) shown)

  as_set : written ≡ set (set e.bytes (2 * i) (n % 256)) (2 * i + 1) (n / 256 % 256)
  as_set =
      ap (λ xs. take (2 * i) xs ++ (copied ++ drop k (drop (2 * i) xs))) bytes
      ∙ (ap (λ xs. take (2 * i) e.bytes ++ (xs ++ drop k (drop (2 * i) e.bytes))) copy
      ∙ (ap (λ m. take (2 * i) e.bytes ++ (n % 256 ∷ n / 256 % 256 ∷ drop m (drop (2 * i) e.bytes))) two
      ∙ put_two e.bytes i (n % 256) (n / 256 % 256) within))

  long : length written ≡ length e.bytes
  long = ap (λ xs. length xs) as_set ∙ (length-set (set e.bytes (2 * i) (n % 256)) (2 * i + 1) (n / 256 % 256) ∙ length-set e.bytes (2 * i) (n % 256))

  whole : (overwritten_exporter e written).bytes ≡ written
  whole = ap (λ m. take m (written ++ drop (length written) e.bytes)) (sym long) ∙ take-append_seam written (drop (length written) e.bytes)

  numbers : numbers_of (overwritten_exporter e written).bytes ≡ set (numbers_of e.bytes) i n
  numbers = ap numbers_of (whole ∙ as_set) ∙ (numbers_of-set e.bytes i _ _ within ∙ ap (λ m. set (numbers_of e.bytes) i m) (two_bytes n small))

  pub put_sound : IsNumberArray (overwritten_exporter e written)
  put_sound =
      let many : length (numbers_of (overwritten_exporter e written).bytes) ≡ length (numbers_of e.bytes) = ap (λ ns. length ns) numbers ∙ length-set (numbers_of e.bytes) i n in
      let same : length (overwritten_exporter e written).bytes ≡ length e.bytes = ap (λ xs. length xs) whole ∙ long in
      record {
        kind = array.kind;
        pairs = omega (arith, array.pairs);
        whole = λ view live. array.whole view live ∙ ap (λ count. bytes_layout count false) (sym same);
      }

  pub put_shown : numbers_in (overwritten_exporter e written) ≡ record a { numbers = set a.numbers i n }
  put_shown = ap (λ ns. record (numbers_in e) { numbers = ns }) numbers ∙ ap {B = Numbers} (λ b. record b { numbers = set b.numbers i n }) shown

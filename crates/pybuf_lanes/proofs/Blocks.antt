-- Pairs of digits that are read in blocks of 32.
use Rattle.std.proofs.Common.{◌≡◌, ℕ, ◌+◌, ◌*◌, ◌%◌, ◌^◌, ◌<◌, ◌≤◌, cond, leb, List, [], ◌∷◌, ◌++◌, map, length, take, drop, get_or, replicate, w8, sym, ap, ap₂, refl, ◌∙◌, subst, arith}
use Rattle.std.proofs.Math.Seq.{take-add}
use Rattle.std.proofs.lemmas.Bool.{leb-false}
use Rattle.std.proofs.lemmas.Simd.{tops_compared, mask_l-mod, zip2_splat_left, pick_l_whole, none_from_empty_mask, Each1-from_get_or, length-chunk, length-put_chunk, take_more_put_chunk}
use Rattle.std.proofs.lemmas.List.{length-map, length-append, length-take-le, take_all, drop-drop, map-append}
use Rattle.std.specs.List.{range_with_len}
use lib.Lanes.{Each1, pick_l, mask_l, top, zip2, chunk, put_chunk}
use Rattle.pybuf_lanes.specs.Pairs.{AreDigits, bytes_of_pairs, value_or_16}

-- ---- values below 16

abbrev AreValues : List ℕ → Type 0
AreValues v = Each1 (λ n. n < 16) v

none_from_16 : (v : List ℕ) → mask_l (map (λ n. leb 16 n) v) ≡ 0 → AreValues v
none_from_16 v empty =
    let whole : mask_l (map (λ n. leb 16 n) (take (length v) v)) ≡ 0 = ap (λ l. mask_l (map (λ n. leb 16 n) l)) (take_all (length v) v (omega arith)) ∙ empty in
    Each1-from_get_or (λ n. n < 16) v 0 (λ i inside.
    leb-false 16 (get_or v i 0) (none_from_empty_mask (λ n. leb 16 n) v 0 (length v) 0 (omega arith) whole i (omega arith) (omega arith)))

pub all_below_16 : (v : List ℕ) (lanes : ℕ) → length v ≡ lanes → lanes ≤ 64 → mask_l (map (top 7) (zip2 (λ a b. cond (leb a b) 255 0) (replicate lanes 16) v)) % 2 ^ 64 ≡ 0 → AreValues v
all_below_16 v lanes long few empty =
    let compared = tops_compared w8 leb (replicate lanes 16) v ∙ zip2_splat_left leb 16 lanes v long in
    let fits = mask_l-mod (map (λ n. leb 16 n) v) 64 (omega (arith, length-map v (λ n. leb 16 n))) in
    none_from_16 v (sym fits ∙ sym (ap (λ l. mask_l l % 2 ^ 64) compared) ∙ empty)

both_are_values : (front back : List ℕ) → AreValues front → AreValues back → AreValues (front ++ back)
both_are_values [] back f b = b
both_are_values (n ∷ front) back f b = (f.0, both_are_values front back f.1 b)

-- ---- two values as one byte

-- the sums of lanes that were shifted, which stay below 256 where both are values
abbrev shifted_sums : List ℕ → List ℕ
shifted_sums [] = []
shifted_sums (high ∷ []) = []
shifted_sums (high ∷ low ∷ values) = ((high * 16 % 256 + low) % 256) ∷ shifted_sums values

no_carry : (high low : ℕ) → high < 16 → low < 16 → (high * 16 % 256 + low) % 256 ≡ high * 16 + low
no_carry high low h l = omega arith

sums_are_bytes : (values : List ℕ) → AreValues values → shifted_sums values ≡ bytes_of_pairs values
sums_are_bytes [] are = refl
sums_are_bytes (high ∷ []) are = refl
sums_are_bytes (high ∷ low ∷ values) are = ap₂ (λ b bytes. b ∷ bytes) (no_carry high low are.0 are.1.0) (sums_are_bytes values are.1.1)

pub values_in_pairs : (front back : List ℕ) → length front ≡ 16 → length back ≡ 16 → AreValues front → AreValues back
    → shifted_sums (pick_l 0 (front ++ back) (range_with_len 0 32)) ≡ bytes_of_pairs (front ++ back)
values_in_pairs front back f b small_front small_back =
    ap shifted_sums (pick_l_whole 0 (front ++ back) 32 (omega (arith, length-append front back)))
    ∙ sums_are_bytes (front ++ back) (both_are_values front back small_front small_back)

-- ---- a block as two vectors

two_vectors : (text : List ℕ) (at : ℕ) → chunk at 32 text ≡ chunk at 16 text ++ chunk (at + 16) 16 text
two_vectors text at = take-add 16 16 (drop at text) ∙ ap (λ l. chunk at 16 text ++ take 16 l) (drop-drop 16 at text)

pub values_of_block : (f : ℕ → ℕ) (text front back : List ℕ) (at : ℕ) → front ≡ map f (chunk at 16 text) → back ≡ map f (chunk (at + 16) 16 text) → front ++ back ≡ map f (chunk at 32 text)
values_of_block f text front back at is_front is_back =
    ap₂ (λ x y. x ++ y) is_front is_back
    ∙ sym (ap (map f) (two_vectors text at) ∙ map-append f (chunk at 16 text) (chunk (at + 16) 16 text))

digits_by_values : (text : List ℕ) → AreValues (map value_or_16 text) → AreDigits text
digits_by_values [] are = tt
digits_by_values (c ∷ text) are = (are.0, digits_by_values text are.1)

pub digits_of_block : (text front back : List ℕ) (at : ℕ) → front ≡ map value_or_16 (chunk at 16 text) → back ≡ map value_or_16 (chunk (at + 16) 16 text)
    → AreValues front → AreValues back → AreDigits (chunk at 32 text)
digits_of_block text front back at is_front is_back f b =
    digits_by_values (chunk at 32 text) (subst AreValues (values_of_block value_or_16 text front back at is_front is_back) (both_are_values front back f b))

-- ---- one block after another

-- so many bytes were read from the front of a text into that of a room
pub record IsRead (text room : List ℕ) (at : ℕ) : Type 0 where
  pub inside : 2 * at ≤ length text
  pub room_left : at ≤ length room
  pub digits : AreDigits (take (2 * at) text)
  pub bytes : take at room ≡ bytes_of_pairs (map value_or_16 (take (2 * at) text))

both_are_digits : (front back : List ℕ) → AreDigits front → AreDigits back → AreDigits (front ++ back)
both_are_digits [] back f b = b
both_are_digits (c ∷ front) back f b = (f.0, both_are_digits front back f.1 b)

pairs-append : (front back : List ℕ) → length front % 2 ≡ 0 → bytes_of_pairs (front ++ back) ≡ bytes_of_pairs front ++ bytes_of_pairs back
pairs-append [] back even = refl
pairs-append (high ∷ []) back even = absurd (omega arith)
pairs-append (high ∷ low ∷ front) back even = ap (λ bytes. (high * 16 + low) ∷ bytes) (pairs-append front back (omega arith))

half_as_long : (values : List ℕ) → length values % 2 ≡ 0 → 2 * length (bytes_of_pairs values) ≡ length values
half_as_long [] even = refl
half_as_long (high ∷ []) even = absurd (omega arith)
half_as_long (high ∷ low ∷ values) even = omega (arith, half_as_long values (omega arith))

pub one_block_more : (text room block : List ℕ) (at : ℕ) → IsRead text room at → 2 * at + 32 ≤ length text → block ≡ bytes_of_pairs (map value_or_16 (chunk (2 * at) 32 text))
    → AreDigits (chunk (2 * at) 32 text) → at + 16 ≤ length room → IsRead text (put_chunk at room block) (at + 16)
one_block_more text room block at old long is all free =
    let part = chunk (2 * at) 32 text in
    let values : length (map value_or_16 part) ≡ 32 = length-map part value_or_16 ∙ length-chunk (2 * at) 32 text long in
    let size : length block ≡ 16 = omega (arith, ap length is, half_as_long (map value_or_16 part) (omega arith)) in
    let more : take (2 * (at + 16)) text ≡ take (2 * at) text ++ part = ap (λ n. take n text) (omega arith) ∙ take-add (2 * at) 32 text in
    let even : length (map value_or_16 (take (2 * at) text)) % 2 ≡ 0 =
    omega (arith, length-map (take (2 * at) text) value_or_16, length-take-le (2 * at) text old.inside) in
    record {
      inside = omega arith;
      room_left = omega (arith, length-put_chunk at room block);
      digits = subst AreDigits (sym more) (both_are_digits (take (2 * at) text) part old.digits all);
      bytes = take_more_put_chunk at room block (at + 16) (omega arith) (omega arith)
          ∙ ap₂ (λ x y. x ++ y) old.bytes is
          ∙ sym (ap (λ l. bytes_of_pairs (map value_or_16 l)) more ∙ ap bytes_of_pairs (map-append value_or_16 (take (2 * at) text) part) ∙ pairs-append _ (map value_or_16 part) even);
    }

-- Bytes that are filled up to a width stand unchanged between fill bytes, and the whole has that width.
use Rattle.std.proofs.Common.{◌≡◌, ℕ, ◌+◌, ◌-◌, ◌/◌, ◌%◌, ◌≤◌, Bool, true, false, cond, eqb, ltb, ◌&&◌, ◌||◌, ℤ, pos, negsuc, List, [], ◌∷◌, ◌++◌, length, take, drop, replicate, refl, ap, sym, ◌∙◌, arith, take-append-drop}
use Rattle.std.specs.Int.{int_max}
use Rattle.std.proofs.lemmas.Bool.{cond_both, and_parts, eqb-true, ltb-true, ltb-false}
use Rattle.std.proofs.lemmas.List.{length-append, length-replicate}
use Rattle.std.proofs.lemmas.List.Elements.{All-replicate}
use Rattle.pybuf_shaping.specs.Padding.{missing, padded, left_share, sign_length, zero_filled}
use Rattle.pybuf_shaping.specs.Laws.{AreFilledUp, AreZeroFilled, PaddingKeepsBytes, sign_of}

-- With the bytes that are missing, the length is the greater of the width and the length.
reaches : (width : ℤ) (bytes : List ℕ) (total : ℕ) → total ≡ length bytes + missing width bytes → pos total ≡ int_max width (pos (length bytes))
reaches (pos w) bytes total h =
    cond_both (ltb (length bytes) w) (pos w) (pos (length bytes)) (λ z. pos total ≡ z)
    (λ less. let below = ltb-true (length bytes) w less in ap pos (omega arith))
    (λ more. let above = ltb-false (length bytes) w more in ap pos (omega arith))
reaches (negsuc w) bytes total h = ap pos (omega (arith, h))

between : (width : ℤ) (fill left right : ℕ) (bytes : List ℕ) → left + right ≡ missing width bytes →
    AreFilledUp width fill (replicate left fill) bytes (replicate right fill) (padded left right fill bytes)
between width fill left right bytes h = record {
  whole = refl;
  fills = (All-replicate (λ b. b ≡ fill) left fill refl, All-replicate (λ b. b ≡ fill) right fill refl);
  wide = reaches width bytes (length (padded left right fill bytes)) (omega (
    arith,
    length-append (replicate left fill ++ bytes) (replicate right fill),
    length-append (replicate left fill) bytes,
    length-replicate left fill,
    length-replicate right fill,
  ));
}

-- The share on the left is at most all, and it is as much as the rest, or one more or less.
shares : (width : ℤ) (count : ℕ) →
    (left_share width count ≤ count) × (left_share width count ≤ count - left_share width count + 1) × (count - left_share width count ≤ left_share width count + 1)
shares (pos w) count =
    cond_both (eqb (count % 2) 1 && eqb (w % 2) 1) (count / 2 + 1) (count / 2) (λ l. (l ≤ count) × (l ≤ count - l + 1) × (count - l ≤ l + 1))
    (λ yes. let odd = eqb-true (count % 2) 1 (and_parts (eqb (count % 2) 1) (eqb (w % 2) 1) yes).0 in (omega arith, omega arith, omega arith))
    (λ no. (omega arith, omega arith, omega arith))
shares (negsuc w) count = (omega arith, omega arith, omega arith)

-- The first byte is the sign, if it is one.
by_sign : (signed : Bool) (b : ℕ) (bytes : List ℕ) → take (cond signed 1 0) (b ∷ bytes) ≡ cond signed (b ∷ []) []
by_sign true b bytes = refl
by_sign false b bytes = refl

sign_is : (bytes : List ℕ) → take (sign_length bytes) bytes ≡ sign_of bytes
sign_is [] = refl
sign_is (b ∷ bytes) = by_sign (eqb b 43 || eqb b 45) b bytes

zeros_behind : (width : ℤ) (bytes : List ℕ) → AreZeroFilled width bytes (zero_filled width bytes)
zeros_behind width bytes =
    let n : ℕ = sign_length bytes in
    let zeros : List ℕ = replicate (missing width bytes) 48 in
    let rest : List ℕ = drop n bytes in record {
      zeros = zeros;
      rest = rest;
      parts = sym (take-append-drop n bytes) ∙ ap (λ sign. sign ++ rest) (sign_is bytes);
      whole = ap (λ sign. sign ++ zeros ++ rest) (sign_is bytes);
      fills = All-replicate (λ b. b ≡ 48) (missing width bytes) 48 refl;
      wide = reaches width bytes (length (zero_filled width bytes)) (omega (
        arith,
        length-append (take n bytes ++ zeros) rest,
        length-append (take n bytes) zeros,
        length-append (take n bytes) rest,
        ap length (take-append-drop n bytes),
        length-replicate {A = ℕ} (missing width bytes) 48,
      ));
    }

pub padding_keeps_the_bytes : (width : ℤ) (fill : ℕ) (bytes : List ℕ) → PaddingKeepsBytes width fill bytes
padding_keeps_the_bytes width fill bytes =
    let count : ℕ = missing width bytes in
    let left : ℕ = left_share width count in
    let fair = shares width count in record {
      center = (
        replicate left fill,
        replicate (count - left) fill,
        between width fill left (count - left) bytes (omega (arith, fair.0)),
        (
          omega (arith, fair.1, length-replicate left fill, length-replicate (count - left) fill),
          omega (arith, fair.2, length-replicate left fill, length-replicate (count - left) fill),
        ),
      );
      left = (replicate count fill, between width fill 0 count bytes (omega arith));
      right = (replicate count fill, between width fill count 0 bytes (omega arith));
      zeros = zeros_behind width bytes;
    }

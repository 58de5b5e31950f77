-- Digits of bytes that are written sixteen bytes at a time.
use Rattle.std.proofs.Common.{◌≡◌, ℕ, ◌+◌, ◌-◌, ◌*◌, ◌/◌, ◌%◌, ◌≤◌, List, [], ◌∷◌, ◌++◌, map, length, take, drop, slice_index, refl, sym, ap, ap₂, ◌∙◌, subst, arith}
use Rattle.std.proofs.Math.Seq.{take-add}
use Rattle.std.proofs.lemmas.Bool.{false≢true}
use Rattle.std.proofs.lemmas.Simd.{pick_l_whole, take_more_put_chunk, length-chunk}
use Rattle.std.proofs.lemmas.List.{take_rest, take-append-drop, drop_all, append-nil, length-drop}
use borrow.Rule.Slice.PartMut.{put_mid}
use Rattle.std.specs.Prelude.{IsOk, OnOk, ◌↔◌, Result, Ok, Err}
use Rattle.hex.proofs.HexLemmas.{length-encode_with}
use Rattle.hex.specs.Hex.{encode_lower, encode_with, lower_digits}
use lib.Lanes.{pick_l, chunk, put_chunk}

-- ---- sixteen bytes

abbrev digit : ℕ → ℕ
digit n = slice_index lower_digits n

-- the lanes of the upper digits and those of the lower ones, in turn
abbrev pub in_turn : List ℕ
in_turn = 0 ∷ 16 ∷ 1 ∷ 17 ∷ 2 ∷ 18 ∷ 3 ∷ 19 ∷ 4 ∷ 20 ∷ 5 ∷ 21 ∷ 6 ∷ 22 ∷ 7 ∷ 23 ∷ 8 ∷ 24 ∷ 9 ∷ 25 ∷ 10 ∷ 26 ∷ 11 ∷ 27 ∷ 12 ∷ 28 ∷ 13 ∷ 29 ∷ 14 ∷ 30 ∷ 15 ∷ 31 ∷ []

abbrev both_in_turn : List ℕ → List ℕ
both_in_turn bytes = pick_l 0 (map digit (map (λ b. b / 16) bytes) ++ map digit (map (λ b. b % 16) bytes)) in_turn

in_pairs : (bytes : List ℕ) → length bytes ≡ 16 → both_in_turn bytes ≡ encode_lower bytes
unfolding encode_with
in_pairs bytes long = subst (λ b. both_in_turn b ≡ encode_lower b) (pick_l_whole 0 bytes 16 long) refl

pub digits_in_pairs : (bytes high low upper lower : List ℕ) → length bytes ≡ 16 → high ≡ map (λ b. b / 16) bytes → low ≡ map (λ b. b % 16) bytes
    → upper ≡ map digit high → lower ≡ map digit low → pick_l 0 (upper ++ lower) in_turn ≡ encode_lower bytes
digits_in_pairs bytes high low upper lower long h l u w =
    ap₂ (λ x y. pick_l 0 (x ++ y) in_turn) (u ∙ ap (map digit) h) (w ∙ ap (map digit) l) ∙ in_pairs bytes long

-- ---- one vector after another

pub digits-append : (front back : List ℕ) → encode_lower (front ++ back) ≡ encode_lower front ++ encode_lower back
unfolding encode_with
digits-append [] back = refl
digits-append (b ∷ front) back = ap (λ (digits : List ℕ). digit (b / 16) ∷ digit (b % 16) ∷ digits) (digits-append front back)

pub one_vector_more : (bytes room digits : List ℕ) (at : ℕ) → digits ≡ encode_lower (chunk at 16 bytes) → at + 16 ≤ length bytes → length room ≡ 2 * length bytes
    → take (2 * at) room ≡ encode_lower (take at bytes) → take (2 * (at + 16)) (put_chunk (2 * at) room digits) ≡ encode_lower (take (at + 16) bytes)
one_vector_more bytes room digits at is inside long written =
    let many : length digits ≡ 32 = ap length is ∙ length-encode_with lower_digits (chunk at 16 bytes) ∙ omega (arith, length-chunk at 16 bytes inside) in
    take_more_put_chunk (2 * at) room digits (2 * (at + 16)) (omega arith) (omega arith)
    ∙ ap₂ (λ x y. x ++ y) written is
    ∙ sym (ap encode_lower (take-add at 16 bytes) ∙ digits-append (take at bytes) (chunk at 16 bytes))

-- a write to all that is left of a room
pub put_to_end : (at count : ℕ) (room rest : List ℕ) → length room ≤ at + count → put_mid at count room rest ≡ take at room ++ rest
put_to_end at count room rest all =
    ap (λ left. take at room ++ (rest ++ left)) (drop_all count (drop at room) (omega (arith, length-drop at room)))
    ∙ ap (λ end. take at room ++ end) (append-nil rest)

pub rest_written : (bytes room digits : List ℕ) (at : ℕ) → digits ≡ encode_lower (take (length bytes - at) (drop at bytes)) → take (2 * at) room ≡ encode_lower (take at bytes)
    → put_mid (2 * at) (length room - 2 * at) room digits ≡ encode_lower bytes
rest_written bytes room digits at is written =
    put_to_end (2 * at) (length room - 2 * at) room digits (omega arith)
    ∙ ap₂ (λ x y. x ++ y) written (is ∙ ap encode_lower (take_rest bytes at))
    ∙ sym (digits-append (take at bytes) (drop at bytes))
    ∙ ap encode_lower (take-append-drop at bytes)

-- what a call writes where it is one that fits
pub where_it_fits : {A E : Type 0} {Fits Written : Type 0} (outcome : Result A E) → (IsOk outcome ↔ Fits) → Fits → OnOk outcome Written → Written
where_it_fits (Ok x) is fits written = written
where_it_fits (Err e) is fits written = absurd (false≢true (is.1 fits))

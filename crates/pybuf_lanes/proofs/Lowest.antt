-- Every third of 48 bytes, by two vectors; and every fourth of 64, as the lowest bytes of numbers.
use Rattle.std.proofs.Common.{◌≡◌, ℕ, ◌+◌, ◌*◌, ◌≤◌, ◌<◌, bit_and, replicate, Fits, w8, List, [], ◌∷◌, ◌++◌, length, take, drop, get_or, map, refl, sym, ap, ap₂, ◌∙◌, subst, arith}
use Rattle.std.proofs.lemmas.List.{ext_get_or, get_or-map, drop_more, get_or-drop, drop-drop}
use Rattle.std.proofs.lemmas.Simd.{pick_l_whole, length-chunk, zip2_splat, Each1-zip2, Each2-splat, Each1-all, Each1-get_or, get_or_wider, below_from_Fits}
use Rattle.std.proofs.lemmas.List.FromFn.{get_or-map-range_with_len}
use Rattle.std.proofs.lemmas.Nat.{and_le_r, and_mask}
use Rattle.std.specs.List.{range_with_len}
use lib.Lanes.{pick_l, chunk, zip2, digits_l, number_l, Each1}
use Rattle.pybuf_lanes.proofs.Steps.{of_first}
use Rattle.pybuf_lanes.specs.Gathers.{every}

-- ---- thirds

behind : (n : ℕ) (bytes lanes : List ℕ) → pick_l 0 (drop n bytes) lanes ≡ map (λ k. get_or bytes (n + k) 0) lanes
behind n bytes [] = refl
behind n bytes (lane ∷ lanes) = ap₂ (λ b bs. b ∷ bs) (get_or-drop n bytes lane 0) (behind n bytes lanes)

-- the lanes of two vectors of 32 bytes, where the second begins 16 bytes after the first
abbrev thirds : List ℕ
thirds = 0 ∷ 3 ∷ 6 ∷ 9 ∷ 12 ∷ 15 ∷ 18 ∷ 21 ∷ 24 ∷ 27 ∷ 30 ∷ 49 ∷ 52 ∷ 55 ∷ 58 ∷ 61 ∷ []

abbrev of_one : List ℕ
of_one = 0 ∷ 3 ∷ 6 ∷ 9 ∷ 12 ∷ 15 ∷ 18 ∷ 21 ∷ 24 ∷ 27 ∷ 30 ∷ []

abbrev of_other : List ℕ
of_other = 17 ∷ 20 ∷ 23 ∷ 26 ∷ 29 ∷ []

of_both : (one other : List ℕ) → length one ≡ 32 → length other ≡ 32 → pick_l 0 (one ++ other) thirds ≡ pick_l 0 one of_one ++ pick_l 0 other of_other
of_both one other long as_long =
    subst (λ v. pick_l 0 (v ++ other) thirds ≡ pick_l 0 v of_one ++ pick_l 0 other of_other) (pick_l_whole 0 one 32 long)
    (subst (λ w. pick_l 0 (pick_l 0 one (range_with_len 0 32) ++ w) thirds ≡ pick_l 0 (pick_l 0 one (range_with_len 0 32)) of_one ++ pick_l 0 w of_other) (pick_l_whole 0 other 32 as_long) refl)

pub every_third : (bytes : List ℕ) (at : ℕ) → at + 48 ≤ length bytes → pick_l 0 (chunk at 32 bytes ++ chunk (at + 16) 32 bytes) thirds ≡ every 3 16 (drop at bytes)
every_third bytes at inside =
    of_both (chunk at 32 bytes) (chunk (at + 16) 32 bytes) (length-chunk at 32 bytes (omega arith)) (length-chunk (at + 16) 32 bytes (omega arith))
    ∙ ap₂ (λ x y. x ++ y) (of_first 32 (drop at bytes) of_one refl)
    (of_first 32 (drop (at + 16) bytes) of_other refl ∙ sym (ap (λ l. pick_l 0 l of_other) (drop-drop 16 at bytes)) ∙ behind 16 (drop at bytes) of_other)

-- ---- quarters

-- bytes as numbers of four bytes, the lowest first
abbrev words : List ℕ → List ℕ
words v = digits_l 4294967296 16 (number_l 256 v)

pub quarters_fit : (v : List ℕ) → Each1 (Fits w8) (zip2 bit_and (words v) (replicate 16 255))
quarters_fit v =
    Each1-zip2 bit_and (Fits w8) (words v) (replicate 16 255) (Each2-splat (λ a b. Fits w8 (bit_and a b)) (words v) 16 255 (Each1-all (λ a. Fits w8 (bit_and a 255)) (λ a. record { fits = omega (arith, and_le_r a 255) }) (words v)))

lowest_byte : (v : List ℕ) (i : ℕ) → i < length v → Each1 (Fits w8) v → bit_and (number_l 256 (chunk i 4 v)) 255 ≡ get_or v i 0
lowest_byte v i inside fits =
    let b = get_or v i 0 in
    let small : Fits w8 b = Each1-get_or (Fits w8) v i 0 inside fits in
    let less : b < 256 = small.fits in
    let front : chunk i 4 v ≡ b ∷ take 3 (drop (i + 1) v) = ap (take 4) (drop_more v i 0 inside) in
    ap (λ l. bit_and (number_l 256 l) 255) front ∙ and_mask (number_l 256 (b ∷ take 3 (drop (i + 1) v))) 8 ∙ omega arith

pub quarters : (v : List ℕ) → length v ≡ 64 → Each1 (Fits w8) v → zip2 bit_and (words v) (replicate 16 255) ≡ every 4 16 v
quarters v long fits =
    let in_turn : map (λ k. get_or v (4 * k) 0) (range_with_len 0 16) ≡ every 4 16 v = refl in
    zip2_splat bit_and (words v) 16 255 refl
    ∙ ext_get_or 0 (map (λ a. bit_and a 255) (words v)) (map (λ k. get_or v (4 * k) 0) (range_with_len 0 16)) refl (λ j lt.
    get_or-map (λ a. bit_and a 255) (words v) j 0 0 lt
    ∙ ap (λ a. bit_and a 255) (get_or_wider 256 4 4294967296 16 v j refl (below_from_Fits w8 v fits) lt)
    ∙ lowest_byte v (4 * j) (omega arith) fits
    ∙ sym (get_or-map-range_with_len (λ k. get_or v (4 * k) 0) 0 16 j j 0 lt (omega arith)))
    ∙ in_turn

-- How many elements pass a test before the first that doesn't, where they are read in chunks.
use Rattle.std.proofs.Common.{◌≡◌, ℕ, ◌+◌, ◌<◌, ◌≤◌, Bool, true, false, not, cond, List, [], ◌∷◌, ◌++◌, length, take, drop, reverse, map, refl, sym, ap, ◌∙◌, subst, arith}
use Rattle.std.proofs.Math.Seq.{take-add}
use Rattle.std.proofs.lemmas.List.{reverse-append, length-reverse}
use Rattle.std.proofs.lemmas.List.Sums.{prefix_len-le-length}
use Rattle.std.proofs.lemmas.Simd.{chunk-drop, length-chunk, leading_from_mask_l, trailing_mask_l, pick_l_whole, pick_l_left}
use Rattle.std.specs.List.{prefix_len, suffix_len}
use lib.Count.{count_trailing_zeros}
use lib.Lanes.{chunk, mask_l, pick_l}

-- ---- one vector

twice : (b : Bool) → not (not b) ≡ b
twice true = refl
twice false = refl

twice_denied : (test : ℕ → Bool) (xs : List ℕ) → prefix_len (λ x. not (not (test x))) xs ≡ prefix_len test xs
twice_denied test [] = refl
twice_denied test (x ∷ xs) =
    ap (λ t. cond t (1 + prefix_len (λ y. not (not (test y))) xs) 0) (twice (test x)) ∙ ap (λ n. cond (test x) (1 + n) 0) (twice_denied test xs)

abbrev pub failing : (ℕ → Bool) → List ℕ → ℕ
failing test v = mask_l (map (λ x. not (test x)) v)

pub no_lane_fails : (test : ℕ → Bool) (v : List ℕ) → failing test v ≡ 0 → length v ≡ prefix_len test v
no_lane_fails test v none = sym (leading_from_mask_l (λ x. not (test x)) v none) ∙ twice_denied test v

pub some_lane_fails : (test : ℕ → Bool) (v : List ℕ) → length v ≤ 64 → 0 < failing test v → count_trailing_zeros 64 (failing test v) ≡ prefix_len test v
some_lane_fails test v few some = trailing_mask_l (λ x. not (test x)) 64 v few some ∙ twice_denied test v

-- the sixteen lanes from the last to the first
abbrev pub from_last : List ℕ
from_last = 15 ∷ 14 ∷ 13 ∷ 12 ∷ 11 ∷ 10 ∷ 9 ∷ 8 ∷ 7 ∷ 6 ∷ 5 ∷ 4 ∷ 3 ∷ 2 ∷ 1 ∷ 0 ∷ []

pub lanes_turned : (v : List ℕ) → length v ≡ 16 → pick_l 0 (v ++ v) from_last ≡ reverse v
lanes_turned v long = pick_l_left 0 v v 16 from_last long tt ∙ subst (λ w. pick_l 0 w from_last ≡ reverse w) (pick_l_whole 0 v 16 long) refl

-- ---- one list before another

pub all_of_front : (test : ℕ → Bool) (front back : List ℕ) → prefix_len test front ≡ length front → prefix_len test (front ++ back) ≡ length front + prefix_len test back
all_of_front test [] back all = omega arith
all_of_front test (x ∷ front) back all =
    elim (test x) as (λ t. cond t (1 + prefix_len test front) 0 ≡ length (x ∷ front) → cond t (1 + prefix_len test (front ++ back)) 0 ≡ length (x ∷ front) + prefix_len test back) [
      | true ↦ λ h. omega (arith, all_of_front test front back (omega arith))
      | false ↦ λ h. absurd (omega arith)
    ] all

pub part_of_front : (test : ℕ → Bool) (front back : List ℕ) → prefix_len test front < length front → prefix_len test (front ++ back) ≡ prefix_len test front
part_of_front test [] back less = absurd (omega arith)
part_of_front test (x ∷ front) back less =
    elim (test x) as (λ t. cond t (1 + prefix_len test front) 0 < length (x ∷ front) → cond t (1 + prefix_len test (front ++ back)) 0 ≡ cond t (1 + prefix_len test front) 0) [
      | true ↦ λ h. omega (arith, part_of_front test front back (omega arith))
      | false ↦ λ h. refl
    ] less

-- ---- a chunk from a place on, and one up to a place

pub ends_in_chunk : (test : ℕ → Bool) (xs : List ℕ) (at size run : ℕ) → at + size ≤ length xs → run ≡ prefix_len test (chunk at size xs) → run < size → prefix_len test (drop at xs) ≡ run
ends_in_chunk test xs at size run inside is less =
    ap (prefix_len test) (chunk-drop at size xs) ∙ part_of_front test (chunk at size xs) (drop (at + size) xs) (omega (arith, length-chunk at size xs inside)) ∙ sym is

pub goes_past_chunk : (test : ℕ → Bool) (xs : List ℕ) (at size run : ℕ) → at + size ≤ length xs → run ≡ prefix_len test (chunk at size xs) → size ≤ run
    → prefix_len test (drop at xs) ≡ size + prefix_len test (drop (at + size) xs)
goes_past_chunk test xs at size run inside is whole =
    let long = length-chunk at size xs inside in
    ap (prefix_len test) (chunk-drop at size xs)
    ∙ all_of_front test (chunk at size xs) (drop (at + size) xs) (omega (arith, prefix_len-le-length test (chunk at size xs)))
    ∙ ap (λ n. n + prefix_len test (drop (at + size) xs)) long

from_behind : (test : ℕ → Bool) (xs : List ℕ) (at size : ℕ) → suffix_len test (take (at + size) xs) ≡ prefix_len test (reverse (chunk at size xs) ++ reverse (take at xs))
from_behind test xs at size = ap (suffix_len test) (take-add at size xs) ∙ ap (prefix_len test) (reverse-append (take at xs) (chunk at size xs))

pub begins_in_chunk : (test : ℕ → Bool) (xs : List ℕ) (at size run : ℕ) → at + size ≤ length xs → run ≡ suffix_len test (chunk at size xs) → run < size → suffix_len test (take (at + size) xs) ≡ run
begins_in_chunk test xs at size run inside is less =
    from_behind test xs at size
    ∙ part_of_front test (reverse (chunk at size xs)) (reverse (take at xs)) (omega (arith, length-chunk at size xs inside, length-reverse (chunk at size xs)))
    ∙ sym is

pub begins_before_chunk : (test : ℕ → Bool) (xs : List ℕ) (at size run : ℕ) → at + size ≤ length xs → run ≡ suffix_len test (chunk at size xs) → size ≤ run
    → suffix_len test (take (at + size) xs) ≡ size + suffix_len test (take at xs)
begins_before_chunk test xs at size run inside is whole =
    let turned = reverse (chunk at size xs) in
    let long : length turned ≡ size = length-reverse (chunk at size xs) ∙ length-chunk at size xs inside in
    from_behind test xs at size
    ∙ all_of_front test turned (reverse (take at xs)) (omega (arith, prefix_len-le-length test turned))
    ∙ ap (λ n. n + suffix_len test (take at xs)) long

-- ---- how far a loop has come

-- each element before a place passes
pub record PassedUpTo (test : ℕ → Bool) (xs : List ℕ) (at : ℕ) : Type 0 where
  pub inside : at ≤ length xs
  pub passed : at + prefix_len test (drop at xs) ≡ prefix_len test xs

-- each element from a place on passes
pub record PassedDownTo (test : ℕ → Bool) (xs : List ℕ) (end : ℕ) : Type 0 where
  pub inside : end ≤ length xs
  pub passed : length xs + suffix_len test (take end xs) ≡ end + suffix_len test xs

-- The indices of slices of a single axis.
use Rattle.std.proofs.Common.{◌≡◌, ℕ, zero, suc, ◌+◌, ◌-◌, ◌<◌, ◌≤◌, ℤ, pos, negsuc, List, [], ◌∷◌, length, refl, ap, ◌∙◌, arith}
use Rattle.std.specs.Prelude.{None, slice_index, ◌+ℤ◌}
use Rattle.std.specs.List.{range_with_len}
use Rattle.std.specs.declared.ops.Range.{Range}
use Rattle.std.proofs.lemmas.Int.{ints}
use Rattle.std.proofs.lemmas.List.FromFn.{length-range_with_len, get_or-range_with_len}
use Rattle.pybuf_index.specs.Facts.{steps_rise, picks_between}
use Rattle.pybuf_index.specs.Picks.{steps_to, picks}
use Rattle.pybuf_index.specs.Parts.{SliceParts, picks_of}
use Rattle.example_picture.specs.Cuts.{all_of, backwards, between}

-- A slice has `count` indices on an axis, and `source` gives them.
pub record IsAxis (entries : ℕ) (parts : SliceParts) (count : ℕ) (source : ℕ → ℕ) : Type 0 where
  pub many : length (picks_of entries parts) ≡ count
  pub at : (i : ℕ) → i < count → slice_index (picks_of entries parts) i ≡ source i

picks_all : (n : ℕ) → picks n None None (pos 1) ≡ range_with_len 0 n
unfolding picks
picks_all n =
    ap (λ (k : ℕ). steps_to n (pos 0) (pos k) (pos 1)) (let same : n ≡ 0 + n = omega arith in same) ∙ steps_rise n 0 n (omega arith)

-- the numbers below a number, the greatest first
abbrev falling : ℕ → List ℕ
falling zero = []
falling (suc n) = n ∷ falling n

steps_fall : (n : ℕ) → steps_to n (pos n +ℤ negsuc 0) (negsuc 0) (negsuc 0) ≡ falling n
steps_fall zero = refl
steps_fall (suc n) =
    let here : pos (suc n) +ℤ negsuc 0 ≡ pos n = omega (arith, ints) in
    ap (λ (a : ℤ). steps_to (suc n) a (negsuc 0) (negsuc 0)) here ∙ ap (λ (rest : List ℕ). n ∷ rest) (steps_fall n)

picks_backwards : (n : ℕ) → picks n None None (negsuc 0) ≡ falling n
unfolding picks
picks_backwards n = steps_fall n

length-falling : (n : ℕ) → length (falling n) ≡ n
length-falling zero = refl
length-falling (suc n) = ap suc (length-falling n)

falling_at : (n i : ℕ) → i < n → slice_index (falling n) i ≡ n - 1 - i
falling_at zero i below = absurd (omega (arith, below))
falling_at (suc n) zero below = omega arith
falling_at (suc n) (suc i) below = let rest = falling_at n i (omega (arith, below)) in omega (arith, rest)

pub axis_between : (n : ℕ) (range : Range ℕ) → range.start < range.end → range.end ≤ n → IsAxis n (between range) (range.end - range.start) (λ i. range.start + i)
axis_between n range some inside =
    let are = picks_between n range.start range.end (omega (arith, some)) inside in
    record {
      many = ap length are ∙ length-range_with_len range.start (range.end - range.start);
      at = λ i below. ap (λ (xs : List ℕ). slice_index xs i) are ∙ get_or-range_with_len range.start (range.end - range.start) i 0 below;
    }

pub axis_all : (n : ℕ) → IsAxis n all_of n (λ i. i)
axis_all n = record {
  many = ap length (picks_all n) ∙ length-range_with_len 0 n;
  at = λ i below. ap (λ (xs : List ℕ). slice_index xs i) (picks_all n) ∙ get_or-range_with_len 0 n i 0 below ∙ (let same : 0 + i ≡ i = omega arith in same);
}

pub axis_backwards : (n : ℕ) → IsAxis n backwards n (λ i. n - 1 - i)
axis_backwards n = record {
  many = ap length (picks_backwards n) ∙ length-falling n;
  at = λ i below. ap (λ (xs : List ℕ). slice_index xs i) (picks_backwards n) ∙ falling_at n i below;
}

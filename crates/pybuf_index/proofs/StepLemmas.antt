-- The steps of the slice rule are runs of numbers that lie one distance apart.
use Rattle.std.proofs.Common.{◌≡◌, ℕ, zero, suc, ◌+◌, ◌-◌, ◌*◌, ◌/◌, ◌<◌, ◌≤◌, true, false, List, [], ◌∷◌, ℤ, pos, negsuc, refl, ap, sym, ◌∙◌, arith, reverse, inl, inr}
use Rattle.std.specs.Prelude.{◌+ℤ◌, nat_abs}
use Rattle.std.proofs.lemmas.Int.{ints}
use Rattle.std.proofs.lemmas.Bool.{cases_lt}
use Rattle.std.proofs.lemmas.Bool.Decides.{nat_tests}
use Rattle.std.proofs.Math.Nat.{add-div_right, div-eq_of_lt, suc-mul}
use Rattle.pybuf_index.specs.Facts.{how_many_none, how_many_some, greatest_first}
use Rattle.pybuf_index.specs.Picks.{steps_to, comes_before}
use Rattle.pybuf_index.specs.Runs.{rising, how_many}

-- the numbers from just below the top down, one stride apart
abbrev pub falling : ℕ → ℕ → ℕ → List ℕ
falling top stride zero = []
falling top stride (suc count) = (top - 1) ∷ falling (top - stride) stride count

quotient_step : (x t : ℕ) → (x + suc t) / suc t ≡ x / suc t + 1
quotient_step x t = add-div_right x (omega arith)

pub how_many_far : (low high t : ℕ) → low + suc t < high → how_many low high (suc t) ≡ suc (how_many (low + suc t) high (suc t))
how_many_far low high t h =
    let below : low < high = omega arith in
    let same : high - low - 1 ≡ (high - (low + suc t) - 1) + suc t = omega arith in
    rw (how_many_some low high (suc t) below, how_many_some (low + suc t) high (suc t) h, same, quotient_step (high - (low + suc t) - 1) t) (omega arith)

pub how_many_near : (low high t : ℕ) → low < high → high ≤ low + suc t → how_many low high (suc t) ≡ suc (how_many (low + suc t) high (suc t))
how_many_near low high t h near =
    let small : high - low - 1 < suc t = omega arith in
    rw (how_many_some low high (suc t) h, how_many_none (low + suc t) high (suc t) near, div-eq_of_lt small) (omega arith)

pub how_many_more : (low high t : ℕ) → low < high → how_many low high (suc t) ≡ suc (how_many (low + suc t) high (suc t))
how_many_more low high t h =
    elim (cases_lt (low + suc t) high) [ inl far ↦ how_many_far low high t far | inr near ↦ how_many_near low high t h near ]

-- one step, or none
steps_go : (m : ℕ) (a b s : ℤ) → comes_before a b s ≡ true → steps_to (suc m) a b s ≡ nat_abs a ∷ steps_to m (a +ℤ s) b s
steps_go m a b s h = rw h refl

steps_stop : (m : ℕ) (a b s : ℤ) → comes_before a b s ≡ false → steps_to m a b s ≡ []
steps_stop zero a b s h = refl
steps_stop (suc m) a b s h = rw h refl

up_before : (low high t : ℕ) → low < high → comes_before (pos low) (pos high) (pos (suc t)) ≡ true
up_before low high t h = grind (arith, nat_tests)

up_past : (low high t : ℕ) → high ≤ low → comes_before (pos low) (pos high) (pos (suc t)) ≡ false
up_past low high t h = grind (arith, nat_tests)

pub steps_up : (m low high t : ℕ) → high ≤ low + m → steps_to m (pos low) (pos high) (pos (suc t)) ≡ rising low (suc t) (how_many low high (suc t))
steps_up zero low high t h = sym (ap (rising low (suc t)) (how_many_none low high (suc t) (omega arith)))
steps_up (suc m) low high t h =
    elim (cases_lt low high) [
      | inl below ↦ steps_go m (pos low) (pos high) (pos (suc t)) (up_before low high t below) ∙ ap (λ (rest : List ℕ). low ∷ rest) (steps_up m (low + suc t) high t (omega arith)) ∙ sym (ap (rising low (suc t)) (how_many_more low high t below))
      | inr over ↦ steps_stop (suc m) (pos low) (pos high) (pos (suc t)) (up_past low high t over) ∙ sym (ap (rising low (suc t)) (how_many_none low high (suc t) over))
    ]

-- the number below n, which is -1 for 0
abbrev pub below : ℕ → ℤ
below zero = negsuc 0
below (suc n) = pos n

pub below-is : (n : ℕ) → pos n +ℤ negsuc 0 ≡ below n
below-is zero = omega (arith, ints)
below-is (suc n) = omega (arith, ints)

down_before : (low high t : ℕ) → low < high → comes_before (below high) (below low) (negsuc t) ≡ true
down_before low zero t h = absurd (omega arith)
down_before zero (suc high) t h = refl
down_before (suc low) (suc high) t h = grind (arith, nat_tests)

down_past : (low high t : ℕ) → high ≤ low → comes_before (below high) (below low) (negsuc t) ≡ false
down_past zero zero t h = refl
down_past zero (suc high) t h = absurd (omega arith)
down_past (suc low) zero t h = refl
down_past (suc low) (suc high) t h = grind (arith, nat_tests)

-- A step down passes the stop.
down_over : (low high t : ℕ) → 0 < high → high ≤ low + suc t → comes_before (below high +ℤ negsuc t) (below low) (negsuc t) ≡ false
down_over low zero t p h = absurd (omega arith)
down_over zero (suc high) t p h = grind (arith, ints)
down_over (suc low) (suc high) t p h = grind (arith, ints)

down_on : (high t : ℕ) → suc t ≤ high → below high +ℤ negsuc t ≡ below (high - suc t)
down_on high t h = rw (← below-is high, ← below-is (high - suc t)) (omega (arith, ints))

nat_abs_below : (high : ℕ) → 0 < high → nat_abs (below high) ≡ high - 1
nat_abs_below zero h = absurd (omega arith)
nat_abs_below (suc high) h = grind arith

how_many_down : (low high t : ℕ) → low + suc t < high → how_many low high (suc t) ≡ suc (how_many low (high - suc t) (suc t))
how_many_down low high t h =
    let inner : low < high - suc t = omega arith in
    let same : high - (low + suc t) - 1 ≡ high - suc t - low - 1 = omega arith in
    how_many_far low high t h
    ∙ ap suc (how_many_some (low + suc t) high (suc t) h ∙ ap (λ x. x / suc t + 1) same ∙ sym (how_many_some low (high - suc t) (suc t) inner))

pub how_many_last : (low high t : ℕ) → low < high → high ≤ low + suc t → how_many low high (suc t) ≡ 1
how_many_last low high t h near =
    how_many_near low high t h near ∙ ap suc (how_many_none (low + suc t) high (suc t) near)

steps_down_more : (m low high t : ℕ) → low < high → steps_to (suc m) (below high) (below low) (negsuc t) ≡ (high - 1) ∷ steps_to m (below high +ℤ negsuc t) (below low) (negsuc t)
steps_down_more m low high t h =
    steps_go m (below high) (below low) (negsuc t) (down_before low high t h)
    ∙ ap (λ x. x ∷ steps_to m (below high +ℤ negsuc t) (below low) (negsuc t)) (nat_abs_below high (omega arith))

pub steps_down : (m low high t : ℕ) → high ≤ low + m → steps_to m (below high) (below low) (negsuc t) ≡ falling high (suc t) (how_many low high (suc t))
steps_down zero low high t h = sym (ap (falling high (suc t)) (how_many_none low high (suc t) (omega arith)))
steps_down (suc m) low high t h =
    elim (cases_lt low high) [
      | inl under ↦ elim (cases_lt (low + suc t) high) [
        | inl far ↦
            steps_down_more m low high t under
            ∙ ap (λ (a : ℤ). (high - 1) ∷ steps_to m a (below low) (negsuc t)) (down_on high t (omega arith))
            ∙ ap (λ (rest : List ℕ). (high - 1) ∷ rest) (steps_down m low (high - suc t) t (omega arith))
            ∙ sym (ap (falling high (suc t)) (how_many_down low high t far))
        | inr near ↦
            steps_down_more m low high t under
            ∙ ap (λ (rest : List ℕ). (high - 1) ∷ rest) (steps_stop m (below high +ℤ negsuc t) (below low) (negsuc t) (down_over low high t (omega arith) near))
            ∙ sym (ap (falling high (suc t)) (how_many_last low high t under near))
      ]
      | inr over ↦ steps_stop (suc m) (below high) (below low) (negsuc t) (down_past low high t over) ∙ sym (ap (falling high (suc t)) (how_many_none low high (suc t) over))
    ]

pub falling-is : (k low s top : ℕ) → top ≡ low + k * s + 1 → falling top s (suc k) ≡ reverse (rising low s (suc k))
falling-is zero low s top h =
    let e : top - 1 ≡ low = omega arith in ap (λ x. x ∷ []) e
falling-is (suc k) low s top h =
    let e : top ≡ low + (k * s + s) + 1 = grind (arith, suc-mul k s) in
    let first : top - 1 ≡ low + suc k * s = omega arith in
    let rest : top - s ≡ low + k * s + 1 = omega arith in
    ap (λ x. x ∷ falling (top - s) s (suc k)) first
    ∙ ap (λ (ys : List ℕ). (low + suc k * s) ∷ ys) (falling-is k low s (top - s) rest)
    ∙ sym (greatest_first (suc k) low s)

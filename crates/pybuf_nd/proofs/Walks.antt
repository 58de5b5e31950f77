-- The indices of a slice lie one step apart, and each is below the number of entries.
use Rattle.std.proofs.Common.{◌≡◌, ◌≢◌, ℕ, zero, suc, ◌-◌, ◌+◌, ◌<◌, ◌≤◌, ℤ, pos, ◌+ℤ◌, ◌-ℤ◌, ◌*ℤ◌, List, [], ◌∷◌, length, get_or, sym, ap, ap₂, ◌∙◌, subst, arith}
use Rattle.std.proofs.lemmas.Int.{ints}
use Rattle.std.proofs.Math.IntN.{*ℤ_comm, zero-*ℤ}
use Rattle.pybuf_lemmas.proofs.Integers.{sum_times, successor_times, last_terms_swap}
use Rattle.pybuf_index.specs.Facts.{Walks, span_first, walks_span, length-steps}
use Rattle.pybuf_index.specs.Parts.{SliceParts, picks_of}
use Rattle.pybuf_index.specs.Picks.{start_of, stop_of, picks}
use Rattle.pybuf_index.specs.Runs.{span_start, span_end}
use Rattle.pybuf_index.specs.Laws.{SlicesHaveSpans}

-- the place from which the walk of a slice begins
abbrev pub before_first : ℕ → SliceParts → ℤ
before_first n parts = span_first (span_start n parts) (span_end n parts) parts.step -ℤ parts.step

pub walks_slice : SlicesHaveSpans → (n : ℕ) (parts : SliceParts) → parts.step ≢ pos 0 → Walks n parts.step (before_first n parts) (picks_of n parts)
walks_slice spans n parts moves =
    let span = spans n parts moves in
    subst (Walks n parts.step (before_first n parts)) span.same (walks_span n (span_start n parts) (span_end n parts) parts.step span.inside)

-- ---- how many there are at most

pub few_picks : (n : ℕ) (parts : SliceParts) → length (picks_of n parts) ≤ n
unfolding picks
few_picks n parts = length-steps n (start_of n parts.start parts.step) (stop_of n parts.stop parts.step) parts.step

-- ---- each of them

pub walk_below : (n : ℕ) (step before : ℤ) (xs : List ℕ) (i : ℕ) → Walks n step before xs → i < length xs → get_or xs i 0 < n
walk_below n step before [] i w h = absurd (omega arith)
walk_below n step before (x ∷ xs) zero w h = w.0
walk_below n step before (x ∷ xs) (suc i) w h = walk_below n step (pos x) xs i w.2 (omega arith)

zero_plus : (a : ℤ) → pos 0 +ℤ a ≡ a
zero_plus a = omega (arith, ints)

-- Pick i lies i steps after the first, here times a stride.
pub walk_line : (n : ℕ) (step before t : ℤ) (xs : List ℕ) (i : ℕ) → Walks n step before xs → i < length xs → pos i *ℤ (t *ℤ step) +ℤ (before +ℤ step) *ℤ t ≡ pos (get_or xs i 0) *ℤ t
walk_line n step before t [] i w h = absurd (omega arith)
walk_line n step before t (x ∷ xs) zero w h =
    ap (λ z. z +ℤ (before +ℤ step) *ℤ t) (zero-*ℤ (t *ℤ step)) ∙ zero_plus ((before +ℤ step) *ℤ t) ∙ ap (λ z. z *ℤ t) (sym w.1)
walk_line n step before t (x ∷ xs) (suc i) w h =
    ap₂ (λ a b. a +ℤ b *ℤ t) (successor_times i (t *ℤ step)) (sym w.1)
    ∙ last_terms_swap (pos i *ℤ (t *ℤ step)) (t *ℤ step) (pos x *ℤ t)
    ∙ ap (λ z. pos i *ℤ (t *ℤ step) +ℤ z) (ap (λ z. pos x *ℤ t +ℤ z) (*ℤ_comm t step) ∙ sym (sum_times (pos x) step t))
    ∙ walk_line n step (pos x) t xs i w.2 (omega arith)

pub walk_first : (n : ℕ) (step before : ℤ) (xs : List ℕ) → Walks n step before xs → 0 < length xs → pos (get_or xs 0 0) ≡ before +ℤ step
walk_first n step before [] w h = absurd (omega arith)
walk_first n step before (x ∷ xs) w h = w.1

-- The second pick lies one step after the first.
pub walk_two : (n : ℕ) (step before : ℤ) (xs : List ℕ) → Walks n step before xs → 1 < length xs → pos (get_or xs 1 0) ≡ pos (get_or xs 0 0) +ℤ step
walk_two n step before [] w h = absurd (omega arith)
walk_two n step before (x ∷ []) w h = absurd (omega arith)
walk_two n step before (x ∷ y ∷ xs) w h = w.2.1

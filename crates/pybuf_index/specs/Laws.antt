-- The laws of the indices of slices and of spans, beside their definitions.
use Rattle.std.specs.Prelude.{◌≡◌, ◌≢◌, ◌↔◌, ℕ, ◌<◌, ◌≤◌, ◌^◌, ℤ, pos, ◌+ℤ◌, ◌*ℤ◌, nat_abs, Option, IsTrue, All, AllPairs, Contains, IfOk}
use Rattle.pybuf_index.specs.Picks.{is_negative, start_of, stop_of, comes_before, steps_to, picks}
use Rattle.pybuf_index.specs.Parts.{SliceParts, nearest_word, clamped_part, parts_of, saturated_parts_of, picks_of}
use Rattle.pybuf_index.specs.Runs.{run_of, run_low, how_many, span_start, span_end, picks_in_span}
use Rattle.pybuf_index.specs.Indices.{indices_of}
use Rattle.pybuf_value.specs.declared.values.PySlice.{PySlice}

-- the index is a number of steps from the start, and comes before the stop in the direction of the step
abbrev pub IsPick : ℕ → Option ℤ → Option ℤ → ℤ → ℕ → Type 0
IsPick n start stop step i =
    (k : ℕ)
    × (pos i ≡ start_of n start step +ℤ pos k *ℤ step)
    × IsTrue (comes_before (pos i) (stop_of n stop step) step)

-- What the indices of a slice are. Their members are the numbers of `IsPick` and no others. Each is the place of an
-- item, and each comes before all later ones in the direction of the step.
pub record PicksAre (n : ℕ) (start stop : Option ℤ) (step : ℤ) : Type 0 where
  pub members : (i : ℕ) → Contains (picks n start stop step) i ↔ IsPick n start stop step i
  pub inside : All (λ i. i < n) (picks n start stop step)
  pub ordered : AllPairs (λ i j. IsTrue (comes_before (pos i) (pos j) step)) (picks n start stop step)

-- if a sequence fits in memory, a slice has the same indices once each of its parts is the nearest `isize`
abbrev pub SameWhenClamped : ℕ → Option ℤ → Option ℤ → ℤ → Type 0
SameWhenClamped n start stop step =
    n < 2 ^ 63 → picks n (clamped_part start) (clamped_part stop) (nearest_word step) ≡ picks n start stop step

abbrev pub EachSlice : (ℕ → Option ℤ → Option ℤ → ℤ → Type 0) → Type 0
EachSlice P = (n : ℕ) (start stop : Option ℤ) (step : ℤ) → step ≢ pos 0 → P n start stop step

-- the clamped parts of a slice give the indices of its own parts
abbrev pub SameAsItsParts : PySlice → SliceParts → Type 0
SameAsItsParts slice saturated =
    IfOk (parts_of slice) (λ parts. (n : ℕ) → n < 2 ^ 63 → picks_of n saturated ≡ picks_of n parts)

-- the start, stop and step that `indices` gives lead to the indices of the clamped slice
abbrev pub IndicesAgree : PySlice → ℕ → Type 0
IndicesAgree slice n =
    n < 2 ^ 63
    → IfOk (saturated_parts_of slice) (λ saturated. IfOk (indices_of (pos n) slice) (λ at. steps_to n at.0 at.1 at.2 ≡ picks_of n saturated))

-- ---- spans

-- the indices of a span: a run of numbers that are one stride apart, each of which lies in the span
pub record SpanPicksAre (low high : ℕ) (step : ℤ) : Type 0 where
  pub run : picks_in_span low high step ≡ run_of (is_negative step) (run_low (is_negative step) low high (nat_abs step) (how_many low high (nat_abs step))) (nat_abs step) (how_many low high (nat_abs step))
  pub within : All (λ i. (low ≤ i) × (i < high)) (picks_in_span low high step)

abbrev pub EachSpan : (ℕ → ℕ → ℤ → Type 0) → Type 0
EachSpan P = (low high : ℕ) (step : ℤ) → step ≢ pos 0 → P low high step

-- the span of a slice lies in the sequence, and the indices of the span are those of the slice
pub record HasSpan (n : ℕ) (parts : SliceParts) : Type 0 where
  pub ordered : span_start n parts ≤ span_end n parts
  pub inside : span_end n parts ≤ n
  pub same : picks_in_span (span_start n parts) (span_end n parts) parts.step ≡ picks_of n parts

abbrev pub SlicesHaveSpans : Type 0
SlicesHaveSpans = (n : ℕ) (parts : SliceParts) → parts.step ≢ pos 0 → HasSpan n parts

-- A slice divides a list into two parts.
use Rattle.std.proofs.Common.{◌≡◌, ◌≢◌, ℕ, zero, suc, ◌+◌, ◌-◌, ◌*◌, ◌<◌, ◌≤◌, false, List, [], ◌∷◌, ◌++◌, length, reverse, ℤ, pos, negsuc, Option, None, Some, refl, ap, sym, ◌∙◌, subst, arith, inl, inr, append-nil}
use Rattle.std.specs.Prelude.{Bool, All, slice_get}
use Rattle.std.specs.List.{cons_option, filter_map}
use Rattle.std.proofs.lemmas.Bool.{cases_lt}
use Rattle.std.proofs.lemmas.List.{reverse-append, reverse-reverse}
use Rattle.std.proofs.lemmas.List.Elements.{All-head, All-tail, All-same, filter_map-append}
use Rattle.pybuf_slice.specs.Facts.{has_head, has_other, has_reverse}
use Rattle.pybuf_index.specs.Parts.{SliceParts, picks_of}
use Rattle.pybuf_index.specs.Runs.{rising, how_many, picks_in_span, span_start, span_end}
use Rattle.pybuf_index.specs.Laws.{EachSpan, SpanPicksAre, SlicesHaveSpans}
use Rattle.pybuf_slice.specs.Reads.{elements_at}
use Rattle.pybuf_slice.specs.Edits.{has, off_from, elements_off, IsRisingFrom}
use Rattle.pybuf_slice.specs.EditLaws.{marked_elements, unmarked_elements, AreParted, SlicePartsList}
use Rattle.pybuf_slice.proofs.ReadLemmas.{below_end}
use Rattle.pybuf_slice.proofs.EditLemmas.{has_below, rising_lower, all_reverse}

-- for each element, whether its place is on the index list
abbrev flags : {X : Type 0} → ℕ → List X → List ℕ → List Bool
flags place [] indices = []
flags place (x ∷ items) indices = has indices place ∷ flags (suc place) items indices

length-flags : {X : Type 0} (place : ℕ) (items : List X) (indices : List ℕ) → length (flags place items indices) ≡ length items
length-flags place [] indices = refl
length-flags place (x ∷ items) indices = ap suc (length-flags (suc place) items indices)

flags_same : {X : Type 0} (place : ℕ) (items : List X) (one other : List ℕ) → ((q : ℕ) → place ≤ q → has one q ≡ has other q) → flags place items one ≡ flags place items other
flags_same place [] one other same = refl
flags_same place (x ∷ items) one other same =
    ap (λ b. b ∷ flags (suc place) items one) (same place (omega arith))
    ∙ ap (λ (bs : List Bool). has other place ∷ bs) (flags_same (suc place) items one other (λ q h. same q (omega arith)))

off_unmarked : {X : Type 0} (place : ℕ) (items : List X) (indices : List ℕ) → off_from place items indices ≡ unmarked_elements (flags place items indices) items
off_unmarked place [] indices = refl
off_unmarked place (x ∷ items) indices = rw (off_unmarked (suc place) items indices) refl

none_marked : {X : Type 0} (place : ℕ) (items : List X) → marked_elements (flags place items []) items ≡ []
none_marked place [] = refl
none_marked place (x ∷ items) = none_marked (suc place) items

-- the elements at indices that are counted from this place on
abbrev at_from : {X : Type 0} → ℕ → List X → List ℕ → List X
at_from place items indices = filter_map (λ i. slice_get items (i - place)) indices

at_later : {X : Type 0} (place low : ℕ) (x : X) (items : List X) (indices : List ℕ) → place < low → IsRisingFrom low indices → at_from place (x ∷ items) indices ≡ at_from (suc place) items indices
at_later place low x items [] h rises = refl
at_later {X} place low x items (i ∷ indices) h rises =
    let same : i - place ≡ suc (i - suc place) = omega (arith, rises.0) in
    ap (λ n. cons_option (slice_get (x ∷ items) n) (at_from place (x ∷ items) indices)) same
    ∙ ap (cons_option (slice_get items (i - suc place))) (at_later place (suc i) x items indices (omega (arith, rises.0)) rises.1)

within_rest : (indices : List ℕ) (place long : ℕ) → All (λ i. i < place + suc long) indices → All (λ i. i < suc place + long) indices
within_rest indices place long inside = λ k d h. omega (arith, inside k d h)

read_marked : {X : Type 0} (place : ℕ) (items : List X) (indices : List ℕ) → IsRisingFrom place indices → All (λ i. i < place + length items) indices → at_from place items indices ≡ marked_elements (flags place items indices) items
read_marked place [] [] rises inside = refl
read_marked place [] (i ∷ indices) rises inside = absurd (omega (arith, rises.0, All-head (λ i. i < place + 0) i indices inside))
read_marked place (x ∷ items) [] rises inside = sym (none_marked (suc place) items)
read_marked {X} place (x ∷ items) (i ∷ indices) rises inside =
    elim (cases_lt place i) [
      | inl later ↦
          let off : has (i ∷ indices) place ≡ false = has_below (i ∷ indices) (suc place) place (later, rises.1) (omega arith) in
          rw off
          (at_later place (suc place) x items (i ∷ indices) (omega arith) (later, rises.1)
          ∙ read_marked (suc place) items (i ∷ indices) (later, rises.1) (within_rest (i ∷ indices) place (length items) inside))
      | inr here ↦
          let same : i ≡ place = omega (arith, rises.0, here) in
          let none : i - place ≡ 0 = omega (arith, same) in
          let lower : IsRisingFrom (suc place) indices = rising_lower indices (suc i) (suc place) (omega (arith, same)) rises.1 in
          rw (has_head i indices place same)
          (ap (λ n. cons_option (slice_get (x ∷ items) n) (at_from place (x ∷ items) indices)) none
          ∙ ap (λ (xs : List X). x ∷ xs)
          (at_later place (suc place) x items indices (omega arith) lower
          ∙ read_marked (suc place) items indices lower (within_rest indices place (length items) (All-tail (λ k. k < place + suc (length items)) i indices inside))
          ∙ ap (λ (bs : List Bool). marked_elements bs items)
          (flags_same (suc place) items indices (i ∷ indices) (λ q h. let other : i ≢ q = omega (arith, same, h) in sym (has_other i indices q other)))))
    ]

-- ---- the indices of a slice, from the least up

rising_is : (count low t : ℕ) → IsRisingFrom low (rising low (suc t) count)
rising_is zero low t = tt
rising_is (suc count) low t =
    (omega arith, rising_lower (rising (low + suc t) (suc t) count) (low + suc t) (suc low) (omega arith) (rising_is count (low + suc t) t))

at_zero : {X : Type 0} (items : List X) (indices : List ℕ) → elements_at items indices ≡ at_from 0 items indices
at_zero items [] = refl
at_zero {X} items (i ∷ indices) =
    let same : i ≡ i - 0 = omega arith in
    ap (λ n. cons_option (slice_get items n) (elements_at items indices)) same ∙ ap (cons_option (slice_get items (i - 0))) (at_zero items indices)

parted_up : {X : Type 0} (items : List X) (indices : List ℕ) → IsRisingFrom 0 indices → All (λ i. i < length items) indices → elements_at items indices ≡ marked_elements (flags 0 items indices) items
parted_up items indices rises inside =
    at_zero items indices ∙ read_marked 0 items indices rises (λ k d h. omega (arith, inside k d h))

reverse_option : {X : Type 0} (o : Option X) (xs : List X) → reverse (cons_option o xs) ≡ reverse xs ++ cons_option o []
reverse_option None xs = sym (append-nil (reverse xs))
reverse_option (Some x) xs = reverse-append (x ∷ []) xs

read_reverse : {X : Type 0} (items : List X) (indices : List ℕ) → elements_at items (reverse indices) ≡ reverse (elements_at items indices)
read_reverse items [] = refl
read_reverse {X} items (i ∷ indices) =
    ap (elements_at items) (reverse-append (i ∷ []) indices)
    ∙ filter_map-append (slice_get items) (reverse indices) (i ∷ [])
    ∙ ap (λ (xs : List X). xs ++ cons_option (slice_get items i) []) (read_reverse items indices)
    ∙ sym (reverse_option (slice_get items i) (elements_at items indices))

-- ---- both directions

rising_from_zero : (count low t : ℕ) → IsRisingFrom 0 (rising low (suc t) count)
rising_from_zero count low t = rising_lower (rising low (suc t) count) low 0 (omega arith) (rising_is count low t)

-- The indices rise.
parted_rising : {X : Type 0} (items : List X) (low high t : ℕ) (indices : List ℕ) → IsRisingFrom 0 indices → All (λ i. (low ≤ i) × (i < high)) indices → high ≤ length items
    → AreParted items (elements_at items indices) (elements_off items indices) (pos (suc t))
parted_rising items low high t indices rises within inside = record {
  marks = flags 0 items indices;
  one_each = length-flags 0 items indices;
  read_are = parted_up items indices rises (below_end (length items) low high indices inside within);
  stay_are = off_unmarked 0 items indices;
}

-- The same indices stand in reverse.
parted_falling : {X : Type 0} (items : List X) (low high t : ℕ) (indices : List ℕ) → IsRisingFrom 0 indices → All (λ i. (low ≤ i) × (i < high)) (reverse indices) → high ≤ length items
    → AreParted items (elements_at items (reverse indices)) (elements_off items (reverse indices)) (negsuc t)
parted_falling {X} items low high t indices rises within inside =
    let again = all_reverse (λ i. (low ≤ i) × (i < high)) (reverse indices) within in
    let forward = rw (reverse-reverse indices) at again in
    record {
      marks = flags 0 items indices;
      one_each = length-flags 0 items indices;
      read_are = read_reverse items indices ∙ ap reverse (parted_up items indices rises (below_end (length items) low high indices inside forward));
      stay_are = off_unmarked 0 items (reverse indices) ∙ ap (λ (bs : List Bool). unmarked_elements bs items) (flags_same 0 items (reverse indices) indices (λ q h. has_reverse indices q));
    }

-- the indices of a span inside the list
parted_span : {X : Type 0} (spans : EachSpan SpanPicksAre) (items : List X) (low high : ℕ) (step : ℤ) → step ≢ pos 0 → high ≤ length items
    → AreParted items (elements_at items (picks_in_span low high step)) (elements_off items (picks_in_span low high step)) step
parted_span spans items low high (pos zero) moves inside = absurd (moves refl)
parted_span {X} spans items low high (pos (suc t)) moves inside =
    let span = spans low high (pos (suc t)) moves in
    let indices : List ℕ = rising low (suc t) (how_many low high (suc t)) in
    let run : picks_in_span low high (pos (suc t)) ≡ indices = span.run in
    let within = All-same (λ i. (low ≤ i) × (i < high)) indices (picks_in_span low high (pos (suc t))) (sym run) span.within in
    subst (λ (picked : List ℕ). AreParted items (elements_at items picked) (elements_off items picked) (pos (suc t))) (sym run)
    (parted_rising items low high t indices (rising_from_zero (how_many low high (suc t)) low t) within inside)
parted_span {X} spans items low high (negsuc t) moves inside =
    let span = spans low high (negsuc t) moves in
    let count : ℕ = how_many low high (suc t) in
    let least : ℕ = high - 1 - (count - 1) * suc t in
    let indices : List ℕ = rising least (suc t) count in
    let run : picks_in_span low high (negsuc t) ≡ reverse indices = span.run in
    let within = All-same (λ i. (low ≤ i) × (i < high)) (reverse indices) (picks_in_span low high (negsuc t)) (sym run) span.within in
    subst (λ (picked : List ℕ). AreParted items (elements_at items picked) (elements_off items picked) (negsuc t)) (sym run)
    (parted_falling items low high t indices (rising_from_zero count least t) within inside)

parted_parts : {X : Type 0} (spans : EachSpan SpanPicksAre) (slices : SlicesHaveSpans) (items : List X) (parts : SliceParts) → parts.step ≢ pos 0
    → AreParted items (elements_at items (picks_of (length items) parts)) (elements_off items (picks_of (length items) parts)) parts.step
parted_parts {X} spans slices items parts moves =
    let span = slices (length items) parts moves in
    subst (λ (picked : List ℕ). AreParted items (elements_at items picked) (elements_off items picked) parts.step) span.same
    (parted_span spans items (span_start (length items) parts) (span_end (length items) parts) parts.step moves span.inside)

pub parted : {X : Type 0} (spans : EachSpan SpanPicksAre) (slices : SlicesHaveSpans) (items : List X) (start stop : Option ℤ) (step : ℤ) → SlicePartsList items start stop step
parted spans slices items start stop step moves = parted_parts spans slices items (record { start = start; stop = stop; step = step }) moves

-- What is read from a sequence.
use Rattle.std.specs.Prelude.{◌≡◌, ℕ, ℤ, List, length, Option, None, Some, slice_get, Bool, Result, IfOk}
use Rattle.std.specs.List.{filter_map, AllZip}
use Rattle.std.specs.Option.{option_and_then}
use Rattle.pybuf_value.specs.declared.faults.Fault.TheVariants as fault
use Rattle.pybuf_value.specs.declared.faults.Outcome.{Outcome}
use Rattle.pybuf_value.specs.declared.faults.Outcome.TheVariants as outcome
use Rattle.pybuf_index.specs.Places.{item_place}
use Rattle.std.specs.Global.{Vec}
use Rattle.std.specs.declared.ops.Range.{Range}
use Rattle.pybuf_index.specs.Parts.{SliceParts, picks_of}
use Rattle.pybuf_index.specs.Runs.{picks_in_span, signed_step}

-- the elements at the indices, in their order
abbrev pub elements_at : {X : Type 0} → List X → List ℕ → List X
elements_at items indices = filter_map (slice_get items) indices

-- the element, or a refusal with `IndexError` if there is none
abbrev pub item_or_index_error : {X : Type 0} → Option X → Outcome X
item_or_index_error None = outcome.Refused fault.Index
item_or_index_error (Some item) = outcome.Done item

-- the element that a number names; a negative one counts from the end
abbrev pub item_at : {X : Type 0} → List X → ℤ → Outcome X
item_at items number = item_or_index_error (option_and_then (slice_get items) (item_place (length items) number))

-- both are refused in the same way, or both are done and R holds of what they gave
abbrev pub SameOutcome : {X : Type 0} → (X → X → Type 0) → Outcome X → Outcome X → Type 0
SameOutcome R (outcome.Refused e) (outcome.Refused f) = f ≡ e
SameOutcome R (outcome.Done x) (outcome.Done y) = R x y
SameOutcome R (outcome.Refused e) (outcome.Done y) = ⊥
SameOutcome R (outcome.Done x) (outcome.Refused f) = ⊥

-- the elements at the indices of a slice, in their order
abbrev pub picked_elements : {X : Type 0} → List X → SliceParts → List X
picked_elements items parts = elements_at items (picks_of (length items) parts)

-- every so-many-th element of a range, from its first, or down from its last
abbrev pub stepped_elements : {X : Type 0} → List X → Range ℕ → Bool → ℕ → List X
stepped_elements items range falls step = elements_at items (picks_in_span range.start range.end (signed_step falls step))

-- a vector of copies of these elements, in order, is made, unless memory runs out
abbrev pub MakesCopies : {X E : Type 0} → (X → X → Type 0) → List X → Result (Vec X) E → Type 0
MakesCopies R items result = IfOk result (λ list. AllZip R items list.items)

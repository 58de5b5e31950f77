-- Edits of lists.
use Rattle.std.specs.Prelude.{◌≡◌, ⊤, ℕ, zero, suc, ◌*◌, ◌^◌, ◌==◌, ◌≤◌, Bool, true, false, ℤ, pos, negsuc, List, [], ◌∷◌, ◌++◌, length, take, drop, slice_set, nat_lt, if◌then◌else◌, Option, None, Some, Result, Ok, Err, IfOk}
use Rattle.std.specs.List.{AllZip}
use Rattle.std.specs.Global.{Vec}
use Rattle.pybuf_value.specs.declared.faults.Fault.{Fault}
use Rattle.pybuf_value.specs.declared.faults.Fault.TheVariants as fault
use Rattle.pybuf_value.specs.declared.faults.Outcome.{Outcome}
use Rattle.pybuf_value.specs.declared.faults.Outcome.TheVariants as outcome
use Rattle.pybuf_value.specs.Numbers.{times}
use Rattle.pybuf_index.specs.Parts.{SliceParts, picks_of}
use Rattle.pybuf_index.specs.Runs.{span_start, span_end}
use Rattle.std.specs.declared.ops.Range.{Range}

-- a list with other elements in place of those of a range
abbrev pub replaced_range : {X : Type 0} → List X → ℕ → ℕ → List X → List X
replaced_range items start end others = take start items ++ (others ++ drop end items)

-- the list with each of the other elements set at its index
abbrev pub set_at : {X : Type 0} → List X → List ℕ → List X → List X
set_at items [] others = items
set_at items (i ∷ indices) [] = items
set_at items (i ∷ indices) (x ∷ others) = set_at (slice_set items i x) indices others

-- whether a number is in a list of indices
abbrev pub has : List ℕ → ℕ → Bool
has [] n = false
has (i ∷ indices) n = if i == n then true else has indices n

-- the elements whose places aren't in a list of indices, in order, if the first element has this place
abbrev pub off_from : {X : Type 0} → ℕ → List X → List ℕ → List X
off_from place [] indices = []
off_from place (x ∷ items) indices = if has indices place then off_from (suc place) items indices else x ∷ off_from (suc place) items indices

-- the elements whose places aren't in a list of indices, in order
abbrev pub elements_off : {X : Type 0} → List X → List ℕ → List X
elements_off items indices = off_from 0 items indices

-- each number is above the one before it, and none is below the first bound
abbrev pub IsRisingFrom : ℕ → List ℕ → Type 0
IsRisingFrom n [] = ⊤
IsRisingFrom n (i ∷ indices) = (n ≤ i) × IsRisingFrom (suc i) indices

-- the list, repeated this many times
abbrev pub repeated_list : {X : Type 0} → ℕ → List X → List X
repeated_list zero items = []
repeated_list (suc n) items = items ++ repeated_list n items

-- ---- answers of edits

-- one fact holds if an edit was made, and another if it was refused
abbrev pub MatchOutcome : {A : Type 0} → Outcome A → Type 0 → Type 0 → Type 0
MatchOutcome (outcome.Done a) P Q = P
MatchOutcome (outcome.Refused e) P Q = Q

-- refuses with `IndexError` if a number names no item
abbrev pub named_or_index_error : Option ℕ → Result (Unit {0}) Fault
named_or_index_error None = Err fault.Index
named_or_index_error (Some place) = Ok tt

-- the list with another element at the place, if there is one
abbrev pub set_if_named : {X : Type 0} → List X → Option ℕ → X → List X
set_if_named items None x = items
set_if_named items (Some place) x = slice_set items place x

-- the list without the element at the place, if there is one
abbrev pub deleted_if_named : {X : Type 0} → List X → Option ℕ → List X
deleted_if_named items None = items
deleted_if_named items (Some place) = elements_off items (place ∷ [])

-- done if the two numbers are equal, else refused
abbrev pub done_if_equal : Fault → ℕ → ℕ → Outcome (Unit {0})
done_if_equal refusal m n = if m == n then outcome.Done tt else outcome.Refused refusal

-- whether a step is 1
abbrev pub is_one : ℤ → Bool
is_one (pos n) = n == 1
is_one (negsuc n) = false

-- the answer of an assignment: a slice with step 1 takes any number of elements, and any other takes one for each index
abbrev pub assign_answer : ℕ → SliceParts → ℕ → Outcome (Unit {0})
assign_answer n parts count = if is_one parts.step then outcome.Done tt else done_if_equal fault.Value (length (picks_of n parts)) count

-- the list with other elements in place of those of a slice
abbrev pub assigned_list : {X : Type 0} → List X → SliceParts → List X → List X
assigned_list items parts others =
    if is_one parts.step
    then replaced_range items (span_start (length items) parts) (span_end (length items) parts) others
    else set_at items (picks_of (length items) parts) others

-- how many times a list of this length is repeated; none if the whole would be longer than `isize::MAX`
abbrev pub times_that_fit : ℕ → ℤ → Option ℕ
times_that_fit length n = if nat_lt (length * times n) (2 ^ 63) then Some (times n) else None

-- done if the length of the whole is at most `isize::MAX`, else refused
abbrev pub fits_answer : ℕ → Outcome (Unit {0})
fits_answer total = if nat_lt total (2 ^ 63) then outcome.Done tt else outcome.Refused fault.Overflow

-- the list, repeated this many times; refused if it would be longer than `isize::MAX`
abbrev pub repeat_answer : {X : Type 0} → List X → ℤ → Outcome (List X)
repeat_answer items n = if nat_lt (length items * times n) (2 ^ 63) then outcome.Done (repeated_list (times n) items) else outcome.Refused fault.Overflow

-- both are refused in the same way, or the vector has copies of the list's elements
abbrev pub SameLists : {X : Type 0} → (X → X → Type 0) → Outcome (List X) → Outcome (Vec X) → Type 0
SameLists R (outcome.Refused e) (outcome.Refused f) = f ≡ e
SameLists R (outcome.Done items) (outcome.Done list) = AllZip R items list.items
SameLists R (outcome.Refused e) (outcome.Done list) = ⊥
SameLists R (outcome.Done items) (outcome.Refused f) = ⊥

-- a list that is repeated in place: it is empty if it is repeated no times; else it has its own elements, and copies of
-- these behind them
abbrev pub IsRepeated : {X : Type 0} → (X → X → Type 0) → List X → ℕ → List X → Type 0
IsRepeated R items zero new = new ≡ []
IsRepeated {X} R items (suc n) new = (copies : List X) × (new ≡ items ++ copies) × AllZip R (repeated_list n items) copies

-- ---- edits that copy what they are given, where R holds of an element and its copy

-- copies of the items stand in place of the elements of a range
abbrev pub ReplacesRange : {X : Type 0} → (X → X → Type 0) → List X → Range ℕ → List X → List X → Type 0
ReplacesRange {X} R items range old new = (copies : List X) × AllZip R items copies × (new ≡ replaced_range old range.start range.end copies)

-- copies of the items stand at the indices
abbrev pub SetsIndices : {X : Type 0} → (X → X → Type 0) → List X → List ℕ → List X → List X → Type 0
SetsIndices {X} R items indices old new = (copies : List X) × AllZip R items copies × (new ≡ set_at old indices copies)

-- copies of the items stand in place of the elements of a slice
abbrev pub AssignsSlice : {X : Type 0} → (X → X → Type 0) → List X → SliceParts → List X → List X → Type 0
AssignsSlice {X} R items slice old new = (copies : List X) × AllZip R items copies × (new ≡ assigned_list old slice copies)

-- one fact where memory sufficed and an edit was made, another where it was refused
abbrev pub OnOutcome : {A E : Type 0} → Result (Outcome A) E → Type 0 → Type 0 → Type 0
OnOutcome result Made Kept = IfOk result (λ given. MatchOutcome given Made Kept)

-- the same of a call: after a refusal the list is as before
abbrev pub Assigns : {X A E : Type 0} → Result (Outcome A) E → (X → X → Type 0) → List X → SliceParts → List X → List X → Type 0
Assigns result R items slice old new = OnOutcome result (AssignsSlice R items slice old new) (new ≡ old)

-- the same of an edit that leaves the length as it is
abbrev pub AssignsPicks : {X A E : Type 0} → Result (Outcome A) E → (X → X → Type 0) → List X → SliceParts → List X → List X → Type 0
AssignsPicks result R items slice old new = OnOutcome result (SetsIndices R items (picks_of (length old) slice) old new) (new ≡ old)

-- the list stands there so many times; after a refusal it is as before
abbrev pub Repeats : {X A E : Type 0} → Result (Outcome A) E → (X → X → Type 0) → ℕ → List X → List X → Type 0
Repeats result R count old new = OnOutcome result (IsRepeated R old count new) (new ≡ old)

-- a slice of a list of this length takes as many elements as it has indices
abbrev pub pick_answer : Fault → ℕ → SliceParts → ℕ → Outcome (Unit {0})
pick_answer refusal n parts count = done_if_equal refusal (length (picks_of n parts)) count

-- the elements that a slice doesn't pick, in order
abbrev pub picks_off : {X : Type 0} → List X → SliceParts → List X
picks_off items parts = elements_off items (picks_of (length items) parts)

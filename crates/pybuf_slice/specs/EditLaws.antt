-- What edits by slices do, beside their definitions.
use Rattle.std.specs.Prelude.{◌≡◌, ◌≢◌, ℕ, ℤ, pos, Bool, List, [], ◌∷◌, ◌++◌, length, reverse, slice_get, Contains, Option, if◌then◌else◌}
use Rattle.pybuf_index.specs.Picks.{is_negative, start_of, picks}
use Rattle.pybuf_index.specs.Parts.{SliceParts, picks_of}
use Rattle.pybuf_slice.specs.Reads.{elements_at}
use Rattle.pybuf_slice.specs.Edits.{elements_off, assigned_list}

-- the elements whose mark is true, in order
abbrev pub marked_elements : {X : Type 0} → List Bool → List X → List X
marked_elements [] items = []
marked_elements (mark ∷ marks) [] = []
marked_elements (mark ∷ marks) (x ∷ items) = if mark then x ∷ marked_elements marks items else marked_elements marks items

-- the elements whose mark is false, in order
abbrev pub unmarked_elements : {X : Type 0} → List Bool → List X → List X
unmarked_elements [] items = []
unmarked_elements (mark ∷ marks) [] = []
unmarked_elements (mark ∷ marks) (x ∷ items) = if mark then unmarked_elements marks items else x ∷ unmarked_elements marks items

-- the list in the direction of a step
abbrev pub along : {X : Type 0} → ℤ → List X → List X
along step items = if is_negative step then reverse items else items

-- Each element of the list has a mark. Those whose mark is true are read, in the direction of the step. The others stay
-- if those are deleted, in their order.
pub record AreParted {X : Type 0} (items read stay : List X) (step : ℤ) : Type 0 where
  pub marks : List Bool
  pub one_each : length marks ≡ length items
  pub read_are : read ≡ along step (marked_elements marks items)
  pub stay_are : stay ≡ unmarked_elements marks items

-- reading by a slice and deleting by it part the list in two
abbrev pub SlicePartsList : {X : Type 0} → List X → Option ℤ → Option ℤ → ℤ → Type 0
SlicePartsList items start stop step =
    step ≢ pos 0
    → AreParted items (elements_at items (picks (length items) start stop step)) (elements_off items (picks (length items) start stop step)) step

-- if as many elements take the place of those of a slice, the length stays
abbrev pub AsManyKeepTheLength : {X : Type 0} → List X → SliceParts → List X → Type 0
AsManyKeepTheLength items parts others = length (picks_of (length items) parts) ≡ length others → length (assigned_list items parts others) ≡ length items

-- from the new list the slice reads the other elements, and each place that it doesn't pick has the element that it had
pub record AreSet {X : Type 0} (items : List X) (parts : SliceParts) (others new : List X) : Type 0 where
  pub read : elements_at new (picks_of (length new) parts) ≡ others
  pub stay : (i : ℕ) → ¬ Contains (picks_of (length items) parts) i → slice_get new i ≡ slice_get items i

-- if as many elements take the place of those of a slice, the slice reads them back, and no other place changes
abbrev pub AsManyAreReadBack : {X : Type 0} → List X → SliceParts → List X → Type 0
AsManyAreReadBack items parts others =
    parts.step ≢ pos 0
    → length (picks_of (length items) parts) ≡ length others
    → AreSet items parts others (assigned_list items parts others)

-- The list is a front up to the start, what the slice reads, and a back. The new list has the other elements between
-- the same front and back.
pub record StandBetween {X : Type 0} (items : List X) (parts : SliceParts) (others new : List X) : Type 0 where
  pub front : List X
  pub back : List X
  pub starts : pos (length front) ≡ start_of (length items) parts.start parts.step
  pub whole : front ++ (elements_at items (picks_of (length items) parts) ++ back) ≡ items
  pub changed : new ≡ front ++ (others ++ back)

-- any number of elements can take the place of those of a slice with step 1
abbrev pub AnyNumberTakesThePlace : {X : Type 0} → List X → SliceParts → List X → Type 0
AnyNumberTakesThePlace items parts others = parts.step ≡ pos 1 → StandBetween items parts others (assigned_list items parts others)

-- The view of the items at the indices that slices pick, one slice for each dimension.
use Rattle.std.specs.Prelude.{ℕ, zero, suc, ℤ, ◌*ℤ◌, Bool, true, false, List, [], ◌∷◌, length, drop, map, slice_index, Result}
use Rattle.pybuf_value.specs.declared.faults.Fault.{Fault}
use Rattle.pybuf_value.specs.declared.faults.Fault.TheVariants as fault
use Rattle.pybuf_value.specs.Refusing.{unless}
use Rattle.pybuf_index.specs.Parts.{SliceParts, picks_of, nearest_word}
use Rattle.pybuf_desc.specs.Layouts.{Layout}
use Rattle.pybuf_nd.specs.IndexMaps.{view_by}

-- the indices that the slices pick, a list for each dimension
abbrev pub picks_of_each : List ℕ → List SliceParts → List (List ℕ)
picks_of_each (n ∷ shape) (parts ∷ slices) = picks_of n parts ∷ picks_of_each shape slices
picks_of_each _ _ = []

-- in each dimension, the pick whose number is the index
abbrev pub picked_indices : List (List ℕ) → List ℕ → List ℕ
picked_indices (picks ∷ others) (index ∷ indices) = slice_index picks index ∷ picked_indices others indices
picked_indices _ _ = []

-- how many indices are picked in each dimension
abbrev pub counts_of : List (List ℕ) → List ℕ
counts_of each = map (λ (picks : List ℕ). length picks) each

-- Each stride that is shown is the old stride times the step, where the step is clamped to `isize`. The product
-- is clamped to `isize` too.
abbrev pub strides_after : List ℤ → List SliceParts → List ℤ
strides_after (stride ∷ strides) (parts ∷ slices) = nearest_word (stride *ℤ nearest_word parts.step) ∷ strides_after strides slices
strides_after _ _ = []

abbrev pub selection_of : Layout → List SliceParts → Layout
selection_of view slices =
    view_by view (counts_of (picks_of_each view.shape slices)) (strides_after view.strides slices) (picked_indices (picks_of_each view.shape slices))

-- whether a list has an entry of 0
abbrev pub has_zero : List ℕ → Bool
has_zero [] = false
has_zero (zero ∷ shape) = true
has_zero (suc n ∷ shape) = has_zero shape

-- A selection is refused if it picks nothing in a dimension after the first.
abbrev pub selection_check : List ℕ → List SliceParts → Result Bool Fault
selection_check shape slices = unless (has_zero (drop 1 (counts_of (picks_of_each shape slices)))) fault.Value

-- Laws of arrays, whatever is done with them.
use Rattle.std.specs.Prelude.{◌≡◌, ℕ, false, List, length, slice_get, Some, Ok}
use Rattle.pybuf_value.specs.declared.values.PySlice.{PySlice}
use Rattle.pybuf_index.specs.Parts.{SliceParts, saturated_parts_of, picks_of}
use Rattle.pybuf_slice.specs.Reads.{elements_at}
use Rattle.pybuf_array.specs.declared.operations.ArrayOp.{ArrayOp}
use Rattle.pybuf_array.specs.Array.{Array, ArrayView, live_view, view_sliced}
use Rattle.pybuf_array.specs.Operations.{KeepsLengthWhileViewed}

-- In any run from any array, the number of numbers stays while a view is unreleased.
abbrev pub LengthsStayWhileViewed : Type 0
LengthsStayWhileViewed = (a : Array) (ops : List ArrayOp) → KeepsLengthWhileViewed a ops

-- what a second slice picks among the picks of a first, if there are n items
abbrev pub picks_of_picks : ℕ → SliceParts → SliceParts → List ℕ
picks_of_picks n first second = elements_at (picks_of n first) (picks_of (length (picks_of n first)) second)

-- View k shows the items of a view that one slice picks among the picks of another.
pub record ShowsPicksOfPicks (v : ArrayView) (s t : PySlice) (a : Array) (k : ℕ) : Type 0 where
  pub first : SliceParts
  pub second : SliceParts
  pub first_of : saturated_parts_of s ≡ Ok first
  pub second_of : saturated_parts_of t ≡ Ok second
  pub shown : slice_get a.views k ≡ Some (record { indices = elements_at v.indices (picks_of_picks (length v.indices) first second); released = false })

-- A slice of a slice of a view shows what the second picks among the picks of the first.
abbrev pub SlicesOfSlices : Type 0
SlicesOfSlices =
    (a b c : Array) (v : ArrayView) (k m n : ℕ) (s t : PySlice) → live_view a k ≡ Ok v → view_sliced a k s ≡ Ok (b, m) →
    view_sliced b m t ≡ Ok (c, n) → ShowsPicksOfPicks v s t c n

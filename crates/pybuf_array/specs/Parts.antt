-- How an array is kept. Its numbers lie in the bytes of a bytearray, whose unreleased views count the array's.
-- For each view it keeps a run of indices, which says which of the numbers the view shows.
use Rattle.std.specs.Prelude.{◌≡◌, ℕ, ◌≤◌, true, List, [], ◌∷◌, length, slice_get, Some}
use Rattle.pybuf_command.specs.declared.kinds.ExporterKind.TheVariants as kinds
use Rattle.pybuf_state.specs.Exporter.{Exporter, View}
use Rattle.pybuf_state.specs.Live.{is_live}
use Rattle.pybuf_numbers.specs.declared.codes.ArrayCode.{ArrayCode}
use Rattle.pybuf_numbers.specs.Numbers.{numbers_of, is_whole}
use Rattle.pybuf_numbers.specs.declared.runs.IndexRun.{IndexRun}
use Rattle.pybuf_numbers.specs.Walks.{indices_of, LiesBelow}
use Rattle.pybuf_array.specs.Array.{Array, ArrayView}

abbrev pub view_of : IndexRun → View → ArrayView
view_of r v = record { indices = indices_of r; released = v.released }

abbrev pub views_of : List IndexRun → List View → List ArrayView
views_of (r ∷ runs) (v ∷ views) = view_of r v ∷ views_of runs views
views_of _ _ = []

abbrev pub array_of : ArrayCode → Exporter → List IndexRun → Array
array_of c e runs = record { code = c; numbers = numbers_of c e.bytes; views = views_of runs e.views }

-- Each index of a run is below n, and the run has at most n indices.
pub record IsInside (n : ℕ) (r : IndexRun) : Type 0 where
  pub below : LiesBelow n r
  pub few : r.count ≤ n

-- What holds of the parts. The bytes are those of whole numbers, each view has its run, and the runs of
-- unreleased views lie inside.
pub record IsSoundArray (c : ArrayCode) (e : Exporter) (runs : List IndexRun) : Type 0 where
  pub kind : e.kind ≡ kinds.ByteArray
  pub whole : is_whole c e.bytes ≡ true
  pub count : length runs ≡ length e.views
  pub inside : (k : ℕ) (r : IndexRun) → slice_get runs k ≡ Some r → is_live e k ≡ true → IsInside (length (numbers_of c e.bytes)) r

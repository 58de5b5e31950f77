-- The views that show parts of a picture, and what cutting them needs.
use Rattle.std.specs.Prelude.{◌≡◌, ◌<◌, ℕ, pos, negsuc, false, List, [], ◌∷◌, drop, codes, slice_index, Some, None}
use Rattle.std.specs.declared.ops.Range.{Range}
use Rattle.pybuf_index.specs.Parts.{SliceParts}
use Rattle.pybuf_desc.specs.Layouts.{Layout}
use Rattle.pybuf_nd.specs.Selections.{has_zero, counts_of, picks_of_each}
use Rattle.example_picture.specs.Parts.{Part}

-- the part that a view of rows, columns and channels shows
abbrev pub part_of : Layout → Part
part_of view = record {
  rows = slice_index view.shape 0;
  columns = slice_index view.shape 1;
  channels = slice_index view.shape 2;
  places = view.starts;
}

-- The view is such a view: its items are bytes that may be written, and no axis is empty.
pub record IsFrame (view : Layout) : Type 0 where
  pub format : view.format ≡ codes "B"
  pub itemsize : view.itemsize ≡ 1
  pub writable : view.readonly ≡ false
  pub shape : view.shape ≡ (part_of view).rows ∷ (part_of view).columns ∷ (part_of view).channels ∷ []
  pub some_row : 0 < (part_of view).rows
  pub some_column : 0 < (part_of view).columns
  pub some_channel : 0 < (part_of view).channels

-- Each axis has an index in its slice.
abbrev pub IsSome : List ℕ → List SliceParts → Type 0
IsSome shape slices = has_zero (drop 1 (counts_of (picks_of_each shape slices))) ≡ false

abbrev pub all_of : SliceParts
all_of = record { start = None; stop = None; step = pos 1 }

abbrev pub backwards : SliceParts
backwards = record { start = None; stop = None; step = negsuc 0 }

abbrev pub between : Range ℕ → SliceParts
between range = record { start = Some (pos range.start); stop = Some (pos range.end); step = pos 1 }

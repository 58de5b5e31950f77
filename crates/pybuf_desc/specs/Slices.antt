-- The slice of a view along its first dimension.
use Rattle.std.specs.Prelude.{ℕ, ◌*◌, ◌/◌, ℤ, pos, ◌*ℤ◌, List, [], ◌∷◌, length, take, drop}
use Rattle.std.specs.List.{flat_map}
use Rattle.pybuf_index.specs.Parts.{SliceParts, picks_of, nearest_word}
use Rattle.pybuf_desc.specs.Layouts.{Layout}

-- The first entry of a shape. It is 1 if there is no dimension, and an iterator over such a view goes along one entry.
-- Such a view is never sliced, so the 1 means nothing there.
abbrev pub first_entry : List ℕ → ℕ
first_entry [] = 1
first_entry (n ∷ shape) = n

abbrev pub first_stride : List ℤ → ℤ
first_stride [] = pos 0
first_stride (stride ∷ strides) = stride

-- block i, if the places are cut into blocks of this size
abbrev pub block_at : ℕ → List ℕ → ℕ → List ℕ
block_at size starts i = take size (drop (i * size) starts)

-- The starts are cut into as many equal blocks as the first entry says. The slice has the blocks at the picks, in that
-- order, and their number is its first entry. Its first shown stride is the old one times the clamped step, and is
-- clamped again; to clamp a number is to take the nearest `isize`. All else stays.
abbrev pub slice_at : Layout → List ℕ → ℤ → Layout
slice_at view picks step =
    record view {
      shape = length picks ∷ drop 1 view.shape;
      starts = flat_map (λ i. block_at (length view.starts / first_entry view.shape) view.starts i) picks;
      strides = nearest_word (first_stride view.strides *ℤ nearest_word step) ∷ drop 1 view.strides;
    }

abbrev pub slice_of : Layout → SliceParts → Layout
slice_of view parts = slice_at view (picks_of (first_entry view.shape) parts) parts.step

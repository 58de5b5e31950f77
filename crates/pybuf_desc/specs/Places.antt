-- Where the items of a descriptor lie.
use Rattle.std.specs.Prelude.{◌≡◌, ℕ, ℤ, pos, ◌+ℤ◌, ◌*ℤ◌, nat_abs, List, [], ◌∷◌, map}
use Rattle.std.specs.List.{flat_map, range_with_len}
use Rattle.pybuf_desc.specs.Layouts.{Layout}
use Rattle.pybuf_desc.specs.Descriptor.{Descriptor, shape_of, strides_of}

-- The place of each item, row-major. For each index of the first dimension, in order, they are the places of the other
-- dimensions from `start` plus the index times the stride.
abbrev pub places : List (ℕ × ℤ × ℤ) → ℤ → List ℤ
places [] start = start ∷ []
places (dim ∷ dims) start =
    flat_map (λ index. places dims (start +ℤ pos index *ℤ dim.1)) (range_with_len 0 dim.0)

-- a descriptor with a start stands for a view
pub record Stands (d : Descriptor) (start : ℕ) (view : Layout) : Type 0 where
  pub format : d.format ≡ view.format
  pub itemsize : d.itemsize ≡ view.itemsize
  pub shape : shape_of d.dims ≡ view.shape
  pub strides : strides_of d.dims ≡ view.strides
  pub readonly : d.readonly ≡ view.readonly
  pub starts : places d.dims (pos start) ≡ map pos view.starts

-- the view that a descriptor with a start stands for, if no item lies before place 0
abbrev pub layout_at : Descriptor → ℕ → Layout
layout_at d start =
    record {
      format = d.format;
      itemsize = d.itemsize;
      shape = shape_of d.dims;
      starts = map nat_abs (places d.dims (pos start));
      strides = strides_of d.dims;
      readonly = d.readonly;
    }

-- What the one descriptor stands for, changed in this way, is what the other stands for, each from its own start.
abbrev pub StandsMoved : Descriptor → ℕ → (Layout → Layout) → Descriptor → ℕ → Type 0
StandsMoved d start change other other_start = (view : Layout) → Stands d start view → Stands other other_start (change view)

-- the same of one start, whatever it is
abbrev pub StandsChanged : Descriptor → (Layout → Layout) → Descriptor → Type 0
StandsChanged d change other = (start : ℕ) (view : Layout) → Stands d start view → Stands other start (change view)

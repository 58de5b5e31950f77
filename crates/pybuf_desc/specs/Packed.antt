-- The items of a view as they lie in a copy of their bytes.
use Rattle.std.specs.Prelude.{ℕ, ◌*◌, Bool, List, map}
use Rattle.std.specs.List.{range_with_len}
use Rattle.pybuf_desc.specs.Layouts.{Layout, product}
use Rattle.pybuf_desc.specs.Strides.{row_major_strides}

-- items of this format and size in this shape, which lie one after the other from place 0 on
abbrev pub row_major_layout : List ℕ → ℕ → List ℕ → Bool → Layout
row_major_layout format itemsize shape readonly =
    record {
      format = format;
      itemsize = itemsize;
      shape = shape;
      starts = map (λ k. k * itemsize) (range_with_len 0 (product shape));
      strides = row_major_strides itemsize shape;
      readonly = readonly;
    }

-- the items of a view, moved together without a gap
abbrev pub row_major_of : Layout → Layout
row_major_of view = row_major_layout view.format view.itemsize view.shape view.readonly

-- The bytes of a view as items of another size, in one dimension.
use Rattle.std.specs.Prelude.{ℕ, ◌*◌, ◌/◌, pos, List, [], ◌∷◌, length}
use Rattle.pybuf_desc.specs.Layouts.{Layout}
use Rattle.pybuf_desc.specs.Contiguous.{starts_from}

-- how many items of this size the bytes of the view's items make
abbrev pub cast_count : Layout → ℕ → ℕ
cast_count view size = length view.starts * view.itemsize / size

-- One dimension of items with the new format and size. They lie one after the other, from the first byte of the view
-- on. The cast is read-only if the view is.
abbrev pub cast_of : Layout → List ℕ → ℕ → Layout
cast_of view format size =
    record {
      format = format;
      itemsize = size;
      shape = cast_count view size ∷ [];
      starts = starts_from view.starts size (cast_count view size);
      strides = pos size ∷ [];
      readonly = view.readonly;
    }

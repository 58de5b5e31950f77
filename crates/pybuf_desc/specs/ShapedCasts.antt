-- The bytes of a view as items of another size, in the dimensions of a shape.
use Rattle.std.specs.Prelude.{ℕ, List}
use Rattle.pybuf_desc.specs.Layouts.{Layout, product}
use Rattle.pybuf_desc.specs.Contiguous.{starts_from}
use Rattle.pybuf_desc.specs.Strides.{row_major_strides}

-- Dimensions of these entries, row-major. The items lie one after the other, from the first byte of the view on, if
-- they make up the bytes of the view. The cast is read-only if the view is.
abbrev pub cast_to : Layout → List ℕ → ℕ → List ℕ → Layout
cast_to view format size shape =
    record {
      format = format;
      itemsize = size;
      shape = shape;
      starts = starts_from view.starts size (product shape);
      strides = row_major_strides size shape;
      readonly = view.readonly;
    }

-- The bytes of a view as items of another size, in the dimensions of a shape and in column order.
use Rattle.std.specs.Prelude.{ℕ, ◌+◌, ◌*◌, ℤ, pos, List, [], ◌∷◌}
use Rattle.std.specs.List.{flat_map, range_with_len}
use Rattle.pybuf_desc.specs.Layouts.{Layout}

-- the strides of a shape, if its items lie one after the other in column order
abbrev pub column_major_strides : ℕ → List ℕ → List ℤ
column_major_strides size [] = []
column_major_strides size (n ∷ shape) = pos size ∷ column_major_strides (size * n) shape

-- the starts of these items, row-major, if the first item starts here
abbrev pub column_major_starts : ℕ → List ℕ → ℕ → List ℕ
column_major_starts size [] first = first ∷ []
column_major_starts size (n ∷ shape) first =
    flat_map (λ index. column_major_starts (size * n) shape (first + index * size)) (range_with_len 0 n)

-- these starts, if the first item starts at the first of the given ones; there are none if none is given
abbrev pub column_starts_from : List ℕ → ℕ → List ℕ → List ℕ
column_starts_from [] size shape = []
column_starts_from (first ∷ starts) size shape = column_major_starts size shape first

-- Dimensions of these entries. In column order the items lie one after the other, from the first byte of the view on,
-- if they make up the bytes of the view. The cast is read-only if the view is.
abbrev pub column_cast_to : Layout → List ℕ → ℕ → List ℕ → Layout
column_cast_to view format size shape =
    record {
      format = format;
      itemsize = size;
      shape = shape;
      starts = column_starts_from view.starts size shape;
      strides = column_major_strides size shape;
      readonly = view.readonly;
    }

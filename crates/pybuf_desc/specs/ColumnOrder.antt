-- The items of a view in column order.
use Rattle.std.specs.Prelude.{ℕ, ◌+◌, ◌*◌, Bool, ◌||◌, ◌==◌, List, [], ◌∷◌, length, map, reverse, slice_index, bytes_eq}
use Rattle.std.specs.List.{flat_map, range_with_len}
use Rattle.pybuf_desc.specs.Layouts.{Layout, product}
use Rattle.pybuf_desc.specs.Contiguous.{starts_from}
use Rattle.pybuf_desc.specs.Items.{bytes_of_items}

-- the number of the item at the indices, row-major
abbrev pub number_at : List ℕ → List ℕ → ℕ
number_at (n ∷ shape) (index ∷ indices) = index * product shape + number_at shape indices
number_at _ _ = 0

-- the start of the item at these indices
abbrev pub start_at : Layout → List ℕ → ℕ
start_at view indices = slice_index view.starts (number_at view.shape indices)

-- all indices of a shape, column-major: the first index changes fastest
abbrev pub column_index_lists : List ℕ → List (List ℕ)
column_index_lists [] = [] ∷ []
column_index_lists (n ∷ shape) = flat_map (λ (indices : List ℕ). map (λ index. index ∷ indices) (range_with_len 0 n)) (column_index_lists shape)

-- the starts of the items in column order
abbrev pub column_starts : Layout → List ℕ
column_starts view = map (λ indices. start_at view indices) (column_index_lists view.shape)

-- A view is F-contiguous if, in column order, item k lies k item sizes after the first item. This holds if there are no
-- items. (`bytes_eq` compares lists of numbers.)
abbrev pub is_f_contiguous_layout : Layout → Bool
is_f_contiguous_layout view =
    length view.starts == 0 || bytes_eq (column_starts view) (starts_from view.starts view.itemsize (length view.starts))

-- The view of the same items whose row-major order is the column order of this view. Its dimensions are those of this
-- view, the last one first.
abbrev pub columns_of : Layout → Layout
columns_of view = record view { shape = reverse view.shape; starts = column_starts view; strides = reverse view.strides }

-- the bytes of a view's items, in column order
abbrev pub column_content : List ℕ → Layout → List ℕ
column_content bytes view = bytes_of_items bytes view.itemsize (column_starts view)

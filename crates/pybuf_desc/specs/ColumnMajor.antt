-- Descriptors whose items lie one after the other in column order.
use Rattle.std.specs.Prelude.{◌≡◌, ℕ, ◌*◌, ◌<◌, ℤ, pos, ◌+ℤ◌, ◌*ℤ◌, List, [], ◌∷◌, map, ⊤}
use Rattle.std.specs.List.{flat_map, range_with_len}
use Rattle.pybuf_desc.specs.Layouts.{Layout}
use Rattle.pybuf_desc.specs.Descriptor.{Descriptor}

-- The place of each item in column order. For each place of the other dimensions, in column order, they are the places
-- of the first dimension's entries from there on.
abbrev pub column_places : List (ℕ × ℤ × ℤ) → ℤ → List ℤ
column_places [] start = start ∷ []
column_places (dim ∷ dims) start =
    flat_map (λ place. map (λ index. place +ℤ pos index *ℤ dim.1) (range_with_len 0 dim.0)) (column_places dims start)

-- the stride of each dimension with more than one entry is this size times the product of the earlier entries
abbrev pub AreColumnMajorStrides : ℕ → List (ℕ × ℤ × ℤ) → Type 0
AreColumnMajorStrides size [] = ⊤
AreColumnMajorStrides size (dim ∷ dims) = (1 < dim.0 → dim.1 ≡ pos size) × AreColumnMajorStrides (size * dim.0) dims

-- the same for a shape and the strides that a view shows
abbrev pub AreColumnMajor : ℕ → List ℕ → List ℤ → Type 0
AreColumnMajor size (n ∷ shape) (stride ∷ strides) = (1 < n → stride ≡ pos size) × AreColumnMajor (size * n) shape strides
AreColumnMajor size _ _ = ⊤

abbrev pub HasColumnMajorStrides : Layout → Type 0
HasColumnMajorStrides view = AreColumnMajor view.itemsize view.shape view.strides

-- The dimensions of a shape whose items lie one after the other in column order. The first stride is the item size.
-- Each further stride is the one before it times the entry before it.
abbrev pub column_major_dims : ℕ → List ℕ → List (ℕ × ℤ × ℤ)
column_major_dims size [] = []
column_major_dims size (n ∷ shape) = (n, pos size, pos 0) ∷ column_major_dims (size * n) shape

-- items of this size and format in this shape, in column order, over the bytes of a descriptor
abbrev pub column_cast : Descriptor → List ℕ → ℕ → List ℕ → Descriptor
column_cast d format itemsize shape =
    record d { itemsize = itemsize; format = format; dims = column_major_dims itemsize shape }

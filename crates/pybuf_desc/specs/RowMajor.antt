-- Descriptors whose items lie one after the other without a gap.
use Rattle.std.specs.Prelude.{◌≡◌, ℕ, ◌*◌, ◌<◌, ℤ, pos, ◌+ℤ◌, List, [], ◌∷◌, length, map, ⊤}
use Rattle.std.specs.List.{range_with_len}
use Rattle.pybuf_desc.specs.Layouts.{product}
use Rattle.pybuf_desc.specs.Descriptor.{Descriptor, shape_of}

-- item k lies at the start plus k times the item size
abbrev pub IsContiguous : ℕ → ℤ → List ℤ → Type 0
IsContiguous itemsize start starts =
    starts ≡ map (λ k. start +ℤ pos (k * itemsize)) (range_with_len 0 (length starts))

-- the stride of each dimension with more than one entry is the item size times the number of items of the later
-- dimensions
abbrev pub AreRowMajorStrides : ℕ → List (ℕ × ℤ × ℤ) → Type 0
AreRowMajorStrides itemsize [] = ⊤
AreRowMajorStrides itemsize (dim ∷ dims) =
    (1 < dim.0 → dim.1 ≡ pos (itemsize * product (shape_of dims))) × AreRowMajorStrides itemsize dims

-- the dimensions of a shape whose items lie one after the other
abbrev pub row_major_dims : ℕ → List ℕ → List (ℕ × ℤ × ℤ)
row_major_dims itemsize [] = []
row_major_dims itemsize (n ∷ shape) = (n, pos (itemsize * product shape), pos 0) ∷ row_major_dims itemsize shape

-- items of this size and format in this shape, over the bytes of a descriptor
abbrev pub shaped_cast : Descriptor → List ℕ → ℕ → List ℕ → Descriptor
shaped_cast d format itemsize shape =
    record d { itemsize = itemsize; format = format; dims = row_major_dims itemsize shape }

-- The strides of layouts whose items lie one after the other.
use Rattle.std.specs.Prelude.{◌≡◌, ℕ, ◌*◌, ◌<◌, ℤ, pos, List, [], ◌∷◌, ⊤}
use Rattle.pybuf_desc.specs.Layouts.{Layout, product}

-- the stride of each dimension with more than one entry is the item size times the number of items of the later
-- dimensions
abbrev pub AreRowMajor : ℕ → List ℕ → List ℤ → Type 0
AreRowMajor itemsize (n ∷ shape) (stride ∷ strides) =
    (1 < n → stride ≡ pos (itemsize * product shape)) × AreRowMajor itemsize shape strides
AreRowMajor itemsize _ _ = ⊤

-- the strides of a shape whose items lie one after the other
abbrev pub row_major_strides : ℕ → List ℕ → List ℤ
row_major_strides itemsize [] = []
row_major_strides itemsize (n ∷ shape) = pos (itemsize * product shape) ∷ row_major_strides itemsize shape

abbrev pub HasRowMajorStrides : Layout → Type 0
HasRowMajorStrides view = AreRowMajor view.itemsize view.shape view.strides

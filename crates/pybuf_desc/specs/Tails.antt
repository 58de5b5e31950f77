-- How many of the last dimensions hold their items without a gap.
use Rattle.std.specs.Prelude.{ℕ, suc, ◌*◌, ◌&&◌, ◌||◌, ◌==◌, leb, ℤ, pos, List, ◌∷◌, length, if◌then◌else◌}
use Rattle.std.specs.Ordering.{int_eq}
use Rattle.pybuf_desc.specs.Layouts.{Layout, product}
use Rattle.pybuf_desc.specs.Descriptor.{Descriptor, shape_of, strides_of}

-- The tail is the greatest number of last dimensions that have no gap. In these, the stride of each dimension with more
-- than one entry is the item size times the product of the entries after it. Without dimensions the tail is 0.
abbrev pub tail_of_strides : ℕ → List ℕ → List ℤ → ℕ
tail_of_strides itemsize (n ∷ shape) (stride ∷ strides) =
    if tail_of_strides itemsize shape strides == length shape && (leb n 1 || int_eq stride (pos (itemsize * product shape))) then suc (length shape)
    else tail_of_strides itemsize shape strides
tail_of_strides itemsize _ _ = 0

abbrev pub tail_of : Descriptor → ℕ
tail_of d = tail_of_strides d.itemsize (shape_of d.dims) (strides_of d.dims)

abbrev pub tail_of_layout : Layout → ℕ
tail_of_layout view = tail_of_strides view.itemsize view.shape view.strides

-- What the code keeps of the views that are made. It keeps dimensions, and not the places of the items.
use Rattle.std.specs.Prelude.{ℕ, ◌*◌, ℤ, pos, ◌*ℤ◌, List, [], ◌∷◌, length, map, slice_index, slice_index_or}
use Rattle.pybuf_index.specs.Parts.{SliceParts, picks_of, nearest_word}
use Rattle.pybuf_desc.specs.Layouts.{product}
use Rattle.pybuf_desc.specs.Descriptor.{Descriptor, shape_of}

-- the descriptor in other dimensions, whose format, item size and read-only mark stay
abbrev pub in_dims : Descriptor → List (ℕ × ℤ × ℤ) → Descriptor
in_dims d dims = record d { len = d.itemsize * product (shape_of dims); dims = dims }

-- the dimension that a slice leaves: it has as many entries as the slice picks, and the stride times the step
abbrev pub cut_dim : ℕ × ℤ × ℤ → SliceParts → ℕ × ℤ × ℤ
cut_dim dim parts = (length (picks_of dim.0 parts), nearest_word (dim.1 *ℤ parts.step), dim.2)

abbrev pub cut_dims : List (ℕ × ℤ × ℤ) → List SliceParts → List (ℕ × ℤ × ℤ)
cut_dims (dim ∷ dims) (parts ∷ slices) = cut_dim dim parts ∷ cut_dims dims slices
cut_dims _ _ = []

-- the first entry of each list of picks
abbrev pub firsts_of : List (List ℕ) → List ℕ
firsts_of each = map (λ (picks : List ℕ). slice_index picks 0) each

-- the dimensions in an order of axes: dimension d is that of axis `axes[d]`
abbrev pub dims_in_order : List (ℕ × ℤ × ℤ) → List ℕ → List (ℕ × ℤ × ℤ)
dims_in_order dims axes = map (λ axis. slice_index_or dims axis (0, pos 0, pos 0)) axes

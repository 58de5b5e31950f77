-- Dimensions that are merged: two neighbours become one if their entries lie together.
use Rattle.std.specs.Prelude.{◌≡◌, ℕ, ◌*◌, ◌==◌, ◌||◌, ℤ, pos, ◌*ℤ◌, Bool, false, List, [], ◌∷◌, if◌then◌else◌, ⊤}
use Rattle.std.specs.Ordering.{int_eq}
use Rattle.pybuf_desc.specs.Layouts.{Layout}
use Rattle.pybuf_desc.specs.Descriptor.{shape_of, strides_of}

-- Whether two dimensions lie together: the step of the outer one goes past all entries of the inner one, or one
-- of the two has a single entry.
abbrev pub lie_together : ℕ × ℤ × ℤ → ℕ × ℤ × ℤ → Bool
lie_together outer inner = (outer.0 == 1) || ((inner.0 == 1) || int_eq outer.1 (pos inner.0 *ℤ inner.1))

-- no two neighbours lie together
abbrev pub HasNoneTogether : List (ℕ × ℤ × ℤ) → Type 0
HasNoneTogether [] = ⊤
HasNoneTogether (dim ∷ []) = ⊤
HasNoneTogether (dim ∷ next ∷ dims) = (lie_together dim next ≡ false) × HasNoneTogether (next ∷ dims)

-- the items of a view, in the same places, in dimensions of other entries and strides
abbrev pub with_dims : Layout → List (ℕ × ℤ × ℤ) → Layout
with_dims view dims = record view { shape = shape_of dims; strides = strides_of dims }

-- ---- dimension by dimension

-- One dimension for two. It has the entries of both, and the stride of the one that has several.
abbrev pub joined : ℕ × ℤ × ℤ → ℕ × ℤ × ℤ → ℕ × ℤ × ℤ
joined outer inner = (outer.0 * inner.0, if inner.0 == 1 then outer.1 else inner.1, pos 0)

-- the dimensions after `last`, which takes in each next one that lies together with it
abbrev pub merged_from : ℕ × ℤ × ℤ → List (ℕ × ℤ × ℤ) → List (ℕ × ℤ × ℤ)
merged_from last [] = last ∷ []
merged_from last (dim ∷ dims) = if lie_together last dim then merged_from (joined last dim) dims else last ∷ merged_from dim dims

abbrev pub merged_dims : List (ℕ × ℤ × ℤ) → List (ℕ × ℤ × ℤ)
merged_dims [] = []
merged_dims (dim ∷ dims) = merged_from dim dims

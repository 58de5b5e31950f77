-- What the code keeps of a view, which is a descriptor. A descriptor doesn't say where the items start.
use Rattle.std.specs.Prelude.{ℕ, ◌*◌, ℤ, pos, Bool, List, [], ◌∷◌, map, slice_set, slice_index_or}

-- A dimension is a triple: its number of entries, the distance in bytes from one entry to the next
-- (its stride), and its suboffset.
pub record Descriptor : Type 0 where
  pub len : ℕ
  pub readonly : Bool
  pub itemsize : ℕ
  pub format : List ℕ
  pub dims : List (ℕ × ℤ × ℤ)

-- one dimension of `count` items, one after the other
abbrev pub flat_descriptor : List ℕ → ℕ → ℕ → Bool → Descriptor
flat_descriptor format itemsize count readonly =
    record {
      len = count * itemsize;
      readonly = readonly;
      itemsize = itemsize;
      format = format;
      dims = (count, pos itemsize, pos 0) ∷ [];
    }

-- the number of entries of each dimension
abbrev pub shape_of : List (ℕ × ℤ × ℤ) → List ℕ
shape_of dims = map (λ dim. dim.0) dims

abbrev pub strides_of : List (ℕ × ℤ × ℤ) → List ℤ
strides_of dims = map (λ dim. dim.1) dims

-- the dimensions, with another number of entries and another stride in the first
abbrev pub with_first : List (ℕ × ℤ × ℤ) → ℕ → ℤ → List (ℕ × ℤ × ℤ)
with_first dims count stride = slice_set dims 0 (count, stride, (slice_index_or dims 0 (0, pos 0, pos 0)).2)

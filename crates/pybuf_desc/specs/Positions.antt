-- An item by its indices.
use Rattle.std.specs.Prelude.{ℕ, ◌+◌, ◌*◌, ◌<◌, ℤ, pos, ◌+ℤ◌, ◌*ℤ◌, List, [], ◌∷◌, Result, Ok, ⊤}
use Rattle.pybuf_value.specs.declared.faults.Fault.{Fault}
use Rattle.pybuf_value.specs.Refusing.{◌>>=◌}
use Rattle.pybuf_index.specs.Places.{entry_in}
use Rattle.pybuf_desc.specs.Layouts.{product}
use Rattle.pybuf_desc.specs.Descriptor.{shape_of}

-- there is one index for each dimension, and it is below the dimension's number of entries
abbrev pub AreIndices : List ℕ → List (ℕ × ℤ × ℤ) → Type 0
AreIndices [] [] = ⊤
AreIndices (index ∷ indices) (dim ∷ dims) = (index < dim.0) × AreIndices indices dims
AreIndices _ _ = ⊥

-- the sum of index times stride: the place of the item less the start
abbrev pub offset_of : List ℕ → List (ℕ × ℤ × ℤ) → ℤ
offset_of (index ∷ indices) (dim ∷ dims) = pos index *ℤ dim.1 +ℤ offset_of indices dims
offset_of _ _ = pos 0

-- the item's number, row-major
abbrev pub number_of_item : List ℕ → List (ℕ × ℤ × ℤ) → ℕ
number_of_item (index ∷ indices) (dim ∷ dims) =
    index * product (shape_of dims) + number_of_item indices dims
number_of_item _ _ = 0

-- the sum of each entry times its stride, if each index names an entry
abbrev pub position_of : List ℤ → List (ℕ × ℤ × ℤ) → Result ℤ Fault
position_of (index ∷ indices) (dim ∷ dims) = do
  first ← entry_in dim.0 index
  others ← position_of indices dims
  Ok (pos first *ℤ dim.1 +ℤ others)
position_of _ _ = Ok (pos 0)

-- The bytes of the items in column order, as ranges.
use Rattle.std.specs.Prelude.{◌≡◌, ℕ, ◌≤◌, Bool, true, ℤ, pos, nat_abs, List, length, map, take}
use Rattle.std.specs.List.{flat_map, range_with_len, AllByRecursion}
use Rattle.std.specs.declared.ops.Range.{Range}
use Rattle.pybuf_desc.specs.Descriptor.{Descriptor}
use Rattle.pybuf_desc.specs.Places.{places}
use Rattle.pybuf_desc.specs.Valid.{IsInside}
use Rattle.pybuf_desc.specs.ColumnMajor.{column_places}
use Rattle.pybuf_desc.specs.Segments.{range_at, rows_left, HasPlaces, IsRow}

-- a range for each item, in column order
abbrev pub column_ranges_of : Descriptor → ℤ → List (Range ℕ)
column_ranges_of d start = map (range_at d.itemsize) (column_places d.dims start)

-- the places of the items' bytes, item by item in column order
abbrev pub column_item_bytes : Descriptor → ℤ → List ℕ
column_item_bytes d start = flat_map (λ place. range_with_len (nat_abs place) d.itemsize) (column_places d.dims start)

-- a walk stays inside what `isize` can tell; its dimensions are kept with the last one first
pub record IsColumnWalk (dims : List (ℕ × ℤ × ℤ)) (count : ℕ) (indices : List ℕ) (place : ℕ) (has_item : Bool) (size : ℕ) : Type 0 where
  pub few : count ≤ 64
  pub item : has_item ≡ true → IsRow (take count dims) indices place
  pub inside : AllByRecursion (IsInside size 9223372036854775807) (rows_left (take count dims) indices place has_item)

-- dimensions, with the last one first, whose items can be walked from the first item on
pub record AreColumns (dims : List (ℕ × ℤ × ℤ)) (start size : ℕ) : Type 0 where
  pub few : length dims ≤ 64
  pub placed : HasPlaces dims (pos start)
  pub inside : AllByRecursion (IsInside size 9223372036854775807) (places dims (pos start))

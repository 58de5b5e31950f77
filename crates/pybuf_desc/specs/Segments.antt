-- The bytes of the items, as ranges.
use Rattle.std.specs.Prelude.{◌≡◌, ℕ, zero, suc, ◌+◌, ◌-◌, ◌*◌, Bool, true, false, ◌==◌, ℤ, pos, ◌+ℤ◌, ◌-ℤ◌, nat_abs, List, [], ◌∷◌, ◌++◌, length, take, drop, ◌^◌, ◌<◌, ◌≤◌, map, if◌then◌else◌, ⊤}
use Rattle.std.specs.List.{flat_map, range_with_len, AllByRecursion}
use Rattle.std.specs.declared.ops.Range.{Range}
use Rattle.pybuf_desc.specs.Layouts.{product}
use Rattle.pybuf_desc.specs.Descriptor.{Descriptor, shape_of}
use Rattle.pybuf_desc.specs.Tails.{tail_of}
use Rattle.pybuf_desc.specs.Places.{places}
use Rattle.pybuf_desc.specs.Positions.{offset_of, number_of_item}
use Rattle.pybuf_desc.specs.Valid.{IsInside}

-- the range of this many bytes from a place on
abbrev pub range_at : ℕ → ℤ → Range ℕ
range_at size place = record { start = nat_abs place; end = nat_abs place + size }

-- how many of the last dimensions a walk joins: those of the tail if it is asked to join, else none
abbrev pub joined_count : Descriptor → Bool → ℕ
joined_count d join = if join then tail_of d else 0

-- this many of the last dimensions; the outer dimensions are those before them
abbrev pub joined_dims : ℕ → List (ℕ × ℤ × ℤ) → List (ℕ × ℤ × ℤ)
joined_dims joined dims = drop (length dims - joined) dims

abbrev pub outer_dims : ℕ → List (ℕ × ℤ × ℤ) → List (ℕ × ℤ × ℤ)
outer_dims joined dims = take (length dims - joined) dims

-- The ranges of a walk that joins this many of the last dimensions. There is one for each place of the dimensions
-- before them, row-major. It has as many bytes as the items of the joined dimensions have. Without items there is no
-- range.
abbrev pub ranges_of : Descriptor → ℤ → ℕ → List (Range ℕ)
ranges_of d start joined =
    if product (shape_of d.dims) == 0 then []
    else map (range_at (product (shape_of (joined_dims joined d.dims)) * d.itemsize)) (places (outer_dims joined d.dims) start)

-- the places of a range's bytes
abbrev pub bytes_of : Range ℕ → List ℕ
bytes_of range = range_with_len range.start (range.end - range.start)

-- the bytes of a range
abbrev pub bytes_in : List ℕ → Range ℕ → List ℕ
bytes_in bytes range = take (range.end - range.start) (drop range.start bytes)

-- the places of the items' bytes, item by item
abbrev pub item_bytes : Descriptor → ℤ → List ℕ
item_bytes d start = flat_map (λ place. range_with_len (nat_abs place) d.itemsize) (places d.dims start)

-- ---- what a walk has left

-- `n` places from `place` on, one stride apart
abbrev pub line : ℤ → ℤ → ℕ → List ℤ
line place stride zero = []
line place stride (suc n) = place ∷ line (place +ℤ stride) stride n

-- Each place of the dimensions is a number that fits `isize`, and so are their entries.
pub record HasPlaces (dims : List (ℕ × ℤ × ℤ)) (start : ℤ) : Type 0 where
  pub entries : AllByRecursion (λ dim. (0 < dim.0) × (dim.0 < 2 ^ 63)) dims
  pub inside : AllByRecursion (IsInside 0 9223372036854775807) (places dims start)

-- there is an index for each of the dimensions, and it is below the dimension's number of entries; more indices may
-- follow
abbrev pub AreWithin : List ℕ → List (ℕ × ℤ × ℤ) → Type 0
AreWithin indices [] = ⊤
AreWithin [] (dim ∷ dims) = ⊥
AreWithin (index ∷ indices) (dim ∷ dims) = (index < dim.0) × AreWithin indices dims

-- where the dimensions start, if the item at these indices lies at `place`
abbrev pub start_from : List (ℕ × ℤ × ℤ) → List ℕ → ℕ → ℤ
start_from dims indices place = pos place -ℤ offset_of indices dims

-- the row at these indices lies at `place`
pub record IsRow (rows : List (ℕ × ℤ × ℤ)) (indices : List ℕ) (place : ℕ) : Type 0 where
  pub within : AreWithin indices rows
  pub placed : HasPlaces rows (start_from rows indices place)

-- the places of the rows from the one at these indices on; none if there is no such row
abbrev pub rows_left : List (ℕ × ℤ × ℤ) → List ℕ → ℕ → Bool → List ℤ
rows_left rows indices place false = []
rows_left rows indices place true =
    drop (number_of_item indices rows) (places rows (start_from rows indices place))

-- what a walk has left: the rest of a row, and the rows after it
abbrev pub places_left : ℕ → ℤ → ℕ → ℕ → List ℤ → List ℤ
places_left place stride left row_len rows = line (pos place) stride left ++ flat_map (λ p. line p stride row_len) rows

-- a walk stays inside what `isize` can tell
pub record IsWalk (rows : List (ℕ × ℤ × ℤ)) (indices : List ℕ) (row_place : ℕ) (has_row : Bool) (place : ℕ) (stride : ℤ) (left row_len size : ℕ) : Type 0 where
  pub row : has_row ≡ true → IsRow rows indices row_place
  pub row_some : has_row ≡ true → 0 < row_len
  pub inside : AllByRecursion (IsInside size 9223372036854775807) (places_left place stride left row_len (rows_left rows indices row_place has_row))

-- the places of a walk over whole rows
abbrev pub row_places : List (ℕ × ℤ × ℤ) → ℕ → ℤ → ℕ → List ℤ
row_places rows start stride row_len = flat_map (λ p. line p stride row_len) (places rows (pos start))

-- rows that can be walked from the first on
pub record AreRows (rows : List (ℕ × ℤ × ℤ)) (start : ℕ) (stride : ℤ) (row_len size : ℕ) : Type 0 where
  pub few : length rows ≤ 64
  pub placed : HasPlaces rows (pos start)
  pub row_some : 0 < row_len
  pub inside : AllByRecursion (IsInside size 9223372036854775807) (row_places rows start stride row_len)

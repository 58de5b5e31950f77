-- Which item of a view a key names. The items are numbered row-major, by the shape alone.
use Rattle.std.specs.Prelude.{ℕ, ◌+◌, ◌*◌, ◌==◌, List, [], ◌∷◌, map, length, slice_index, ℤ, pos, Bool, false, not, nat_lt, Result, Ok, Err, if◌then◌else◌}
use Rattle.std.specs.List.{list_all}
use Rattle.std.specs.Result.{is_ok, result_unwrap_or}
use Rattle.pybuf_value.specs.declared.faults.Fault.{Fault}
use Rattle.pybuf_value.specs.declared.faults.Fault.TheVariants as fault
use Rattle.pybuf_value.specs.declared.values.Scalar.{Scalar}
use Rattle.pybuf_value.specs.declared.values.Scalar.TheVariants as scalar
use Rattle.pybuf_value.specs.declared.values.Value.{Value}
use Rattle.pybuf_value.specs.declared.values.Value.TheVariants as value
use Rattle.pybuf_value.specs.Numbers.{number_in, is_word}
use Rattle.pybuf_value.specs.Refusing.{◌>>=◌, unless}
use Rattle.pybuf_index.specs.Places.{entry_in}
use Rattle.pybuf_desc.specs.Layouts.{product}
use Rattle.pybuf_memoryview.specs.Items.{index_in}

-- ---- a tuple of numbers, one for each dimension

abbrev pub is_number : Scalar → Bool
is_number part = is_ok (number_in part)

-- the number of a part, or 0 if the part is no number
abbrev pub part_number : Scalar → ℤ
part_number part = result_unwrap_or (number_in part) (pos 0)

-- whether the number of a part fits a word
abbrev pub fits_word : Scalar → Bool
fits_word part = is_word (part_number part)

-- The number of the item at these indices, with one index for each dimension. Each entry counts as many items as the
-- later dimensions have.
abbrev pub item_at_indices : List ℕ → List ℤ → Result ℕ Fault
item_at_indices (n ∷ shape) (index ∷ indices) = do
  entry ← entry_in n index
  item ← item_at_indices shape indices
  Ok (entry * product shape + item)
item_at_indices _ _ = Ok 0

-- Parts that aren't numbers are refused first. Then numbers that don't fit a word are refused, and then too few or too
-- many parts.
abbrev pub item_of_tuple : List ℕ → List Scalar → Result ℕ Fault
item_of_tuple shape parts = do
  _ ← unless (not (list_all is_number parts)) fault.Kind
  _ ← unless (not (list_all fits_word parts)) fault.Index
  _ ← unless (nat_lt (length parts) (length shape)) fault.NotImplemented
  _ ← unless (nat_lt (length shape) (length parts)) fault.Kind
  item_at_indices shape (map part_number parts)

-- ---- any key

-- an index names an item only in a view of one dimension
abbrev pub item_of_index : List ℕ → Value → Result ℕ Fault
item_of_index shape key = do
  index ← index_in key
  _ ← unless (not (length shape == 1)) fault.NotImplemented
  entry_in (slice_index shape 0) index

-- the number of the item in a view with one dimension or more
abbrev pub item_among : List ℕ → Value → Result ℕ Fault
item_among shape (value.Tuple parts) = item_of_tuple shape parts
item_among shape (value.Slices (slice ∷ slices)) = Err fault.NotImplemented
item_among shape key = item_of_index shape key

-- the one item of a view without dimensions, which `()` and `...` name
abbrev pub only_item : Value → Result ℕ Fault
only_item (value.Tuple []) = Ok 0
only_item (value.One scalar.Ellipsis) = Ok 0
only_item _ = Err fault.Kind

-- the number of the item that a key names, in a view of this shape
abbrev pub item_of_key : List ℕ → Value → Result ℕ Fault
item_of_key shape key = if length shape == 0 then only_item key else item_among shape key

-- whether a key reads the view itself, as `...` does in a view without dimensions
abbrev pub names_itself : List ℕ → Value → Bool
names_itself shape (value.One scalar.Ellipsis) = length shape == 0
names_itself shape _ = false

-- Items: what an item is read as, which value it is written as, and the number of a key.
use Rattle.std.specs.Prelude.{ℕ, ◌==◌, List, [], ◌∷◌, length, ℤ, pos, Bool, true, false, Result, Ok, Err}
use Rattle.pybuf_value.specs.declared.faults.Fault.{Fault}
use Rattle.pybuf_value.specs.declared.faults.Fault.TheVariants as fault
use Rattle.pybuf_value.specs.declared.values.Scalar.{Scalar}
use Rattle.pybuf_value.specs.declared.values.Scalar.TheVariants as scalar
use Rattle.pybuf_value.specs.declared.values.Item.{Item}
use Rattle.pybuf_value.specs.declared.values.Item.TheVariants as item
use Rattle.pybuf_value.specs.declared.values.Value.{Value}
use Rattle.pybuf_value.specs.declared.values.Value.TheVariants as value
use Rattle.pybuf_value.specs.Refusing.{◌>>=◌, unless}
use Rattle.pybuf_struct.specs.Formats.{format_of}
use Rattle.pybuf_desc.specs.Layouts.{Layout}
use Rattle.pybuf_struct.specs.Values.{item_of, unpacked_values}
use Rattle.pybuf_struct.specs.Packing.{packed_bytes}
use Rattle.pybuf_value.specs.declared.snaps.Snap.{Snap}
use Rattle.pybuf_value.specs.Numbers.{number_of, fitted_number}

-- the number of a key, which must fit a word
abbrev pub index_in : Value → Result ℤ Fault
index_in key = do
  n ← number_of key
  fitted_number fault.Index n

-- refuses a view without dimensions, since it has no entry that an index or a slice could name
abbrev pub has_dimensions : Layout → Result Bool Fault
has_dimensions layout = unless (length layout.shape == 0) fault.Kind

-- a byte as an item
abbrev pub byte_item : ℕ → Item
byte_item b = item.One (scalar.Int (pos b))

-- the item that values are read as: one value is read as itself, and any other number of values as a tuple
abbrev pub item_of_values : Result (List Scalar) Fault → Item
item_of_values (Ok values) = item_of values
item_of_values (Err f) = item.Many []

-- What the bytes of an item are read as, by the text of its format. Every view has a format whose size is that of its
-- items. Other bytes, or another text, would be read as no values.
abbrev pub item_by : List ℕ → List ℕ → Item
item_by text bytes = item_of_values (format_of text >>= λ format. unpacked_values format bytes)

abbrev pub is_none : Value → Bool
is_none (value.One scalar.None) = true
is_none _ = false

-- for whatever reason a value of an item is refused, the refusal is `TypeError`
abbrev pub kind_fault : {X : Type 0} → Result X Fault → Result X Fault
kind_fault (Ok x) = Ok x
kind_fault (Err f) = Err fault.Kind

-- The one value that an item is written as. A tuple, a list or a slice isn't such a value. An ellipsis stands for it,
-- and every field that looks at its value refuses an ellipsis.
abbrev pub scalar_in : Value → Scalar
scalar_in (value.One s) = s
scalar_in _ = scalar.Ellipsis

abbrev pub is_slice : Value → Bool
is_slice (value.Slice s) = true
is_slice _ = false

-- The piece of bytes that a value is written as, by the text of a format. A handle counts as what it is lent as.
abbrev pub piece_by : List ℕ → List (ℕ × Snap) → Value → Result (List ℕ) Fault
piece_by text pairs v = do
  format ← kind_fault (format_of text)
  kind_fault (packed_bytes format pairs (scalar_in v ∷ []))

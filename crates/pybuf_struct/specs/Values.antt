-- Reading bytes by a format.
use Rattle.std.specs.Prelude.{ℕ, ◌==◌, Bool, true, not, List, [], ◌∷◌, take, drop, map, length, slice_index, Result, Ok, Err, if◌then◌else◌}
use Rattle.pybuf_value.specs.declared.faults.Fault.{Fault}
use Rattle.pybuf_value.specs.declared.faults.Fault.TheVariants as fault
use Rattle.pybuf_value.specs.declared.values.Scalar.{Scalar}
use Rattle.pybuf_value.specs.declared.values.Scalar.TheVariants as scalar
use Rattle.pybuf_value.specs.declared.values.Item.{Item}
use Rattle.pybuf_value.specs.declared.values.Item.TheVariants as item
use Rattle.pybuf_struct.specs.declared.table.Endianness.{Endianness}
use Rattle.pybuf_struct.specs.declared.table.FormatType.{FormatType}
use Rattle.pybuf_struct.specs.declared.table.FormatType.TheVariants as code
use Rattle.pybuf_struct.specs.Table.{is_big, is_signed, size_of}
use Rattle.pybuf_struct.specs.Digits.{number}
use Rattle.pybuf_struct.specs.Formats.{Format, Code, Field, fields, fields_in_row, fields_of_code, fields_from}

-- the bytes of a Pascal string: as many as its first byte says, but at most the rest of the field
abbrev pub pascal_content : List ℕ → List ℕ
pascal_content [] = []
pascal_content (len ∷ rest) = take len rest

-- the value that a field's bytes are read as
abbrev pub value_of : Endianness → FormatType → List ℕ → Scalar
value_of o code.Pad bytes = scalar.None
value_of o code.Char bytes = scalar.Bytes bytes
value_of o code.Bool bytes = scalar.Bool (not (slice_index bytes 0 == 0))
value_of o code.Str bytes = scalar.Bytes bytes
value_of o code.Pascal bytes = scalar.Bytes (pascal_content bytes)
value_of o c bytes = scalar.Int (number (is_big o) (is_signed c) bytes)

abbrev pub value_in : Endianness → List ℕ → Field → Scalar
value_in o bytes field = value_of o field.code (take field.length (drop field.offset bytes))

-- the values of so many fields of a code, one after another from an offset on
abbrev pub values_in_row : Endianness → List ℕ → FormatType → ℕ → ℕ → List Scalar
values_in_row o bytes c offset count = map (value_in o bytes) (fields_in_row c (size_of o c) offset count)

-- the values of a code and its repeat, from an offset on
abbrev pub values_of_code : Endianness → List ℕ → Code → ℕ → List Scalar
values_of_code o bytes c offset = map (value_in o bytes) (fields_of_code c.code (size_of o c.code) offset c.repeat)

-- the values of codes that follow one another from the first byte on
abbrev pub values_of_codes : Endianness → List ℕ → List Code → List Scalar
values_of_codes o bytes codes = map (value_in o bytes) (fields_from o 0 codes)

-- the value of each field, in order
abbrev pub values : Format → List ℕ → List Scalar
values f bytes = map (value_in f.order bytes) (fields f)

-- the values of bytes, if their number is the format's size; any other number is refused with `StructError`
abbrev pub unpacked_values : Format → List ℕ → Result (List Scalar) Fault
unpacked_values f bytes = if length bytes == f.size then Ok (values f bytes) else Err fault.Struct

-- an item of exactly one value is read as that value, and an item of any other number of values as a tuple
abbrev pub item_of : List Scalar → Item
item_of (v ∷ []) = item.One v
item_of vs = item.Many vs

-- whether a field of a code may have this many bytes: `s` and `p` may have any number, and every other code has those
-- of one unit
abbrev pub is_length : Endianness → FormatType → ℕ → Bool
is_length o code.Str n = true
is_length o code.Pascal n = true
is_length o c n = n == size_of o c

-- Formats: the grammar of their text, and where their fields lie. A format is an optional prefix and then any number
-- of codes, each with an optional decimal count.
use Rattle.std.specs.Prelude.{◌≡◌, ◌<◌, length, ℕ, zero, suc, ◌+◌, ◌-◌, ◌*◌, ◌%◌, ◌^◌, ◌==◌, List, [], ◌∷◌, ◌++◌, Option, Some, None, Result, ok_or, nat_lt, drop, if◌then◌else◌}
use Rattle.std.specs.Char.{is_ascii_digit}
use Rattle.std.specs.List.{onto_first, take_while}
use Rattle.std.specs.Str.{byte}
use Rattle.std.specs.Str.Parse.{digits_value}
use Rattle.pybuf_value.specs.Choosing.{◌>>=◌}
use Rattle.pybuf_value.specs.declared.faults.Fault.{Fault}
use Rattle.pybuf_value.specs.declared.faults.Fault.TheVariants as fault
use Rattle.pybuf_struct.specs.declared.table.Endianness.{Endianness}
use Rattle.pybuf_struct.specs.declared.table.Endianness.TheVariants as order
use Rattle.pybuf_struct.specs.declared.table.FormatType.{FormatType}
use Rattle.pybuf_struct.specs.declared.table.FormatType.TheVariants as code
use Rattle.pybuf_struct.specs.Table.{code_of, is_allowed, size_of, alignment_of}

-- ---- the text

-- the prefix and the text after it
abbrev pub prefix_of : List ℕ → Endianness × List ℕ
prefix_of [] = (order.Native, [])
prefix_of (b ∷ rest) =
    if b == byte "@" then (order.Native, rest)
    else if b == byte "=" then (order.Host, rest)
    else if b == byte "<" then (order.Little, rest)
    else if b == byte ">" then (order.Big, rest)
    else if b == byte "!" then (order.Big, rest)
    else (order.Native, b ∷ rest)

-- A text is cut after each byte that is no digit. So a part has the digits of a count, if there are any, and then the
-- letter of a code. If the text ends with digits, these are a last part without a letter.
abbrev pub parts_of : List ℕ → List (List ℕ)
parts_of [] = []
parts_of (b ∷ rest) = if is_ascii_digit b then onto_first b (parts_of rest) else (b ∷ []) ∷ parts_of rest

-- a code of the text with its count
pub record CountedCode : Type 0 where
  pub repeat : ℕ
  pub code : FormatType

-- the count that digits spell in decimal; it is 1 if there are none
abbrev pub count_of : List ℕ → ℕ
count_of [] = 1
count_of (digit ∷ digits) = digits_value 10 (digit ∷ digits)

-- the code that a byte spells, if formats of this prefix have it
abbrev pub allowed_code : Endianness → ℕ → Option FormatType
allowed_code o b = do
  code ← code_of b
  if is_allowed o code then Some code else None

-- the code that stands after the digits of a count: it is one letter
abbrev pub code_after : Endianness → ℕ → List ℕ → Option CountedCode
code_after o count (letter ∷ []) = do
  code ← allowed_code o letter
  Some (record { repeat = count; code = code })
code_after o count _ = None

-- the code with its count that a part spells
abbrev pub counted_code : Endianness → List ℕ → Option CountedCode
counted_code o part = let digits = take_while is_ascii_digit part in code_after o (count_of digits) (drop (length digits) part)

-- the codes that the parts spell, if each part spells one
abbrev pub each_code : Endianness → List (List ℕ) → Option (List CountedCode)
each_code o [] = Some []
each_code o (part ∷ parts) = do
  code ← counted_code o part
  others ← each_code o parts
  Some (code ∷ others)

-- the codes that a text spells after a prefix
unfoldable pub codes_in : Endianness → List ℕ → Option (List CountedCode)
codes_in o text = each_code o (parts_of text)

-- ---- the layout

-- a code of a format: its count, and by how much the offset is raised before it
pub record Code : Type 0 where
  pub repeat : ℕ
  pub code : FormatType
  pub pre_padding : ℕ

-- a format: its byte order, its codes, and its total size
pub record Format : Type 0 where
  pub order : Endianness
  pub codes : List Code
  pub size : ℕ

-- how many bytes an offset is below the next multiple of an alignment
abbrev pub padding : ℕ → ℕ → ℕ
padding alignment offset = if offset % alignment == 0 then 0 else alignment - offset % alignment

-- the bytes that a code takes, without its padding
abbrev pub span : Endianness → Code → ℕ
span o c = c.repeat * size_of o c.code

-- the bytes that codes take, one after another
abbrev pub extent : Endianness → List Code → ℕ
extent o [] = 0
extent o (c ∷ codes) = c.pre_padding + span o c + extent o codes

-- a code that stands after an offset
abbrev pub code_at : Endianness → ℕ → CountedCode → Code
code_at o offset item = record { repeat = item.repeat; code = item.code; pre_padding = padding (alignment_of o item.code) offset }

-- the offset behind a code
abbrev pub offset_after : Endianness → ℕ → Code → ℕ
offset_after o offset c = offset + c.pre_padding + span o c

-- The codes from an offset on, each after its padding, and the last offset, which is the total size. There are none if
-- an offset passes `isize::MAX`. A count that passes it leads to such an offset, since each unit takes at least one
-- byte.
unfoldable pub layout_from : Endianness → ℕ → List CountedCode → Option (List Code × ℕ)
layout_from o offset [] = Some ([], offset)
layout_from o offset (item ∷ items) =
    if nat_lt (offset_after o offset (code_at o offset item)) (2 ^ 63)
    then (do
      others ← layout_from o (offset_after o offset (code_at o offset item)) items
      Some (code_at o offset item ∷ others.0, others.1))
    else None

-- the format whose codes a text spells after a prefix
unfoldable pub format_after_prefix : Endianness → List ℕ → Option Format
format_after_prefix o text = do
  items ← codes_in o text
  layout ← layout_from o 0 items
  Some (record { order = o; codes = layout.0; size = layout.1 })

-- the format that a text spells; a text that spells none is refused with `StructError`
abbrev pub format_of : List ℕ → Result Format Fault
format_of text = ok_or (format_after_prefix (prefix_of text).0 (prefix_of text).1) fault.Struct

-- ---- fields

-- a field, which holds one value in the bytes from an offset on
pub record Field : Type 0 where
  pub code : FormatType
  pub offset : ℕ
  pub length : ℕ

-- this many fields of one size, one after another
abbrev pub fields_in_row : FormatType → ℕ → ℕ → ℕ → List Field
fields_in_row c size offset zero = []
fields_in_row c size offset (suc n) = record { code = c; offset = offset; length = size } ∷ fields_in_row c size (offset + size) n

-- the fields of a code and its count: `s` and `p` have one field of all their bytes, `x` has none, and every other code
-- has one for each unit
abbrev pub fields_of_code : FormatType → ℕ → ℕ → ℕ → List Field
fields_of_code code.Pad size offset n = []
fields_of_code code.Str size offset n = record { code = code.Str; offset = offset; length = n } ∷ []
fields_of_code code.Pascal size offset n = record { code = code.Pascal; offset = offset; length = n } ∷ []
fields_of_code c size offset n = fields_in_row c size offset n

-- the fields of codes that follow one another from an offset
abbrev pub fields_from : Endianness → ℕ → List Code → List Field
fields_from o offset [] = []
fields_from o offset (c ∷ codes) =
    fields_of_code c.code (size_of o c.code) (offset + c.pre_padding) c.repeat
    ++ fields_from o (offset_after o offset c) codes

-- the fields of a format, in order
abbrev pub fields : Format → List Field
fields f = fields_from f.order 0 f.codes

-- how many fields a code and its count give
abbrev pub field_count_of : FormatType → ℕ → ℕ
field_count_of code.Pad n = 0
field_count_of code.Str n = 1
field_count_of code.Pascal n = 1
field_count_of _ n = n

abbrev pub field_count : Code → ℕ
field_count c = field_count_of c.code c.repeat

-- what holds of each format that is kept: its codes fill its size, which is at most `isize::MAX`, and its fields are
-- counted
pub record IsKept (o : Endianness) (codes : List Code) (size arg_count : ℕ) : Type 0 where
  pub bound : size < 2 ^ 63
  pub filled : extent o codes ≡ size
  pub counted_fields : arg_count ≡ length (fields_from o 0 codes)

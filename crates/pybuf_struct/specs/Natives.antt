-- Formats of one native code, with or without `@` before it. A view may be cast to these.
use Rattle.std.specs.Prelude.{◌==◌, ℕ, Bool, true, false, List, [], ◌∷◌, Option, Some, None, if◌then◌else◌}
use Rattle.std.specs.Str.{byte}
use Rattle.pybuf_struct.specs.declared.table.FormatType.{FormatType}
use Rattle.pybuf_struct.specs.declared.table.FormatType.TheVariants as code
use Rattle.pybuf_struct.specs.Singles.{single_code}

-- all codes except those of padding and texts
abbrev pub is_item_code : FormatType → Bool
is_item_code code.Pad = false
is_item_code code.Str = false
is_item_code code.Pascal = false
is_item_code _ = true

abbrev pub item_code_alone : Option FormatType → Option FormatType
item_code_alone (Some c) = if is_item_code c then Some c else None
item_code_alone None = None

-- a text without `@`, if it begins with one
abbrev pub without_at : List ℕ → List ℕ
without_at [] = []
without_at (b ∷ rest) = if b == byte "@" then rest else b ∷ rest

-- the code that a text spells, if it is the letter alone or the letter behind `@`
abbrev pub native_single_code : List ℕ → Option FormatType
native_single_code text = item_code_alone (single_code (without_at text))

-- codes whose items are single bytes
abbrev pub is_byte_code : FormatType → Bool
is_byte_code code.SByte = true
is_byte_code code.UByte = true
is_byte_code code.Char = true
is_byte_code _ = false

abbrev pub is_byte_alone : Option FormatType → Bool
is_byte_alone (Some c) = is_byte_code c
is_byte_alone None = false

-- a format whose items are single bytes: `b`, `B` or `c`, with or without `@` before it
abbrev pub is_byte_format : List ℕ → Bool
is_byte_format text = is_byte_alone (native_single_code text)

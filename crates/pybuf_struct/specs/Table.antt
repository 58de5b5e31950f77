-- The table of codes: the letter of each code, in which formats it is allowed, its size and its alignment. Native
-- sizes, native alignments and the native byte order are those of a 64-bit little-endian machine.
use Rattle.std.specs.Prelude.{ℕ, Bool, true, false, List, [], ◌∷◌, Option, ◌==◌}
use Rattle.std.specs.List.{find}
use Rattle.std.specs.Str.{byte}
use Rattle.pybuf_struct.specs.declared.table.Endianness.{Endianness}
use Rattle.pybuf_struct.specs.declared.table.Endianness.TheVariants as order
use Rattle.pybuf_struct.specs.declared.table.FormatType.{FormatType}
use Rattle.pybuf_struct.specs.declared.table.FormatType.TheVariants as code

-- the byte that spells a code
abbrev pub letter : FormatType → ℕ
letter code.Pad = byte "x"
letter code.SByte = byte "b"
letter code.UByte = byte "B"
letter code.Char = byte "c"
letter code.Bool = byte "?"
letter code.Short = byte "h"
letter code.UShort = byte "H"
letter code.Int = byte "i"
letter code.UInt = byte "I"
letter code.Long = byte "l"
letter code.ULong = byte "L"
letter code.LongLong = byte "q"
letter code.ULongLong = byte "Q"
letter code.SSizeT = byte "n"
letter code.SizeT = byte "N"
letter code.WideChar = byte "u"
letter code.Str = byte "s"
letter code.Pascal = byte "p"

abbrev pub every_code : List FormatType
every_code =
    code.Pad ∷ code.SByte ∷ code.UByte ∷ code.Char ∷ code.Bool ∷ code.Short ∷ code.UShort ∷ code.Int ∷ code.UInt
    ∷ code.Long ∷ code.ULong ∷ code.LongLong ∷ code.ULongLong ∷ code.SSizeT ∷ code.SizeT ∷ code.WideChar ∷ code.Str
    ∷ code.Pascal ∷ []

-- the code that a byte spells
abbrev pub code_of : ℕ → Option FormatType
code_of b = find (λ c. letter c == b) every_code

-- whether a prefix is native, as no prefix and `@` are; the others are prefixes of standard formats
abbrev pub is_native : Endianness → Bool
is_native order.Native = true
is_native _ = false

-- whether numbers are big-endian, so that their first byte is worth most
abbrev pub is_big : Endianness → Bool
is_big order.Big = true
is_big _ = false

-- whether formats of a prefix have a code: `n`, `N` and `u` have no standard size
abbrev pub is_allowed : Endianness → FormatType → Bool
is_allowed o code.SSizeT = is_native o
is_allowed o code.SizeT = is_native o
is_allowed o code.WideChar = is_native o
is_allowed o _ = true

-- the bytes that one unit of a code's count takes
abbrev pub size_of : Endianness → FormatType → ℕ
size_of o code.Short = 2
size_of o code.UShort = 2
size_of o code.Int = 4
size_of o code.UInt = 4
size_of order.Native code.Long = 8
size_of _ code.Long = 4
size_of order.Native code.ULong = 8
size_of _ code.ULong = 4
size_of o code.LongLong = 8
size_of o code.ULongLong = 8
size_of o code.SSizeT = 8
size_of o code.SizeT = 8
size_of o code.WideChar = 4
size_of o _ = 1

-- the offset is raised to a multiple of this number before a code; it is 1 if the code has no alignment
abbrev pub native_alignment : FormatType → ℕ
native_alignment code.Short = 2
native_alignment code.UShort = 2
native_alignment code.Int = 4
native_alignment code.UInt = 4
native_alignment code.Long = 8
native_alignment code.ULong = 8
native_alignment code.LongLong = 8
native_alignment code.ULongLong = 8
native_alignment code.SSizeT = 8
native_alignment code.SizeT = 8
native_alignment code.WideChar = 4
native_alignment _ = 1

abbrev pub alignment_of : Endianness → FormatType → ℕ
alignment_of order.Native c = native_alignment c
alignment_of _ c = 1

-- whether a number of this code is in two's complement
abbrev pub is_signed : FormatType → Bool
is_signed code.SByte = true
is_signed code.Short = true
is_signed code.Int = true
is_signed code.Long = true
is_signed code.LongLong = true
is_signed code.SSizeT = true
is_signed code.WideChar = true
is_signed _ = false

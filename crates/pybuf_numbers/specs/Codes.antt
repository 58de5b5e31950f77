-- The codes of arrays of whole numbers: the letter of each code, its size and its range. These are those of the native
-- format with that letter.
use Rattle.std.specs.Prelude.{ℕ, ◌^◌, ◌==◌, Bool, List, [], ◌∷◌, Option, ℤ, pos}
use Rattle.std.specs.List.{find}
use Rattle.pybuf_struct.specs.declared.table.FormatType.{FormatType}
use Rattle.pybuf_struct.specs.declared.table.FormatType.TheVariants as format
use Rattle.pybuf_struct.specs.declared.table.Endianness.TheVariants as order
use Rattle.pybuf_struct.specs.Table as table
use Rattle.pybuf_struct.specs.Packing as packing
use Rattle.pybuf_numbers.specs.declared.codes.ArrayCode.{ArrayCode}
use Rattle.pybuf_numbers.specs.declared.codes.ArrayCode.TheVariants as code

-- the code of a format for the same numbers
abbrev pub format_of_code : ArrayCode → FormatType
format_of_code code.SByte = format.SByte
format_of_code code.UByte = format.UByte
format_of_code code.Short = format.Short
format_of_code code.UShort = format.UShort
format_of_code code.Int = format.Int
format_of_code code.UInt = format.UInt
format_of_code code.Long = format.Long
format_of_code code.ULong = format.ULong
format_of_code code.LongLong = format.LongLong
format_of_code code.ULongLong = format.ULongLong

abbrev pub every_code : List ArrayCode
every_code =
    code.SByte ∷ code.UByte ∷ code.Short ∷ code.UShort ∷ code.Int ∷ code.UInt ∷ code.Long ∷ code.ULong ∷ code.LongLong
    ∷ code.ULongLong ∷ []

-- the byte that spells a code
abbrev pub letter_of : ArrayCode → ℕ
letter_of c = table.letter (format_of_code c)

-- the code that a byte spells
abbrev pub code_of : ℕ → Option ArrayCode
code_of b = find (λ c. letter_of c == b) every_code

-- how many bytes one number takes
abbrev pub size_of : ArrayCode → ℕ
size_of c = table.size_of order.Native (format_of_code c)

-- whether the numbers of a code are in two's complement
abbrev pub is_signed : ArrayCode → Bool
is_signed c = table.is_signed (format_of_code c)

-- how many different numbers a code has
abbrev pub modulus_of : ArrayCode → ℤ
modulus_of c = pos (256 ^ size_of c)

-- whether a number is in the range of a code
abbrev pub holds : ArrayCode → ℤ → Bool
holds c n = packing.is_in_range (is_signed c) (size_of c) n

-- Texts that are one code's letter. Such a format reads and writes one value.
use Rattle.std.specs.Prelude.{ℕ, ◌==◌, Bool, true, false, List, [], ◌∷◌, Option, Some, None, Result, Ok, if◌then◌else◌}
use Rattle.pybuf_value.specs.declared.faults.Fault.{Fault}
use Rattle.pybuf_value.specs.declared.values.Scalar.{Scalar}
use Rattle.pybuf_value.specs.declared.snaps.Snap.{Snap}
use Rattle.pybuf_value.specs.Refusing.{◌>>=◌}
use Rattle.pybuf_struct.specs.declared.table.Endianness.TheVariants as order
use Rattle.pybuf_struct.specs.declared.table.FormatType.{FormatType}
use Rattle.pybuf_struct.specs.declared.table.FormatType.TheVariants as code
use Rattle.pybuf_struct.specs.Table.{code_of, size_of}
use Rattle.pybuf_struct.specs.Formats.{format_of}
use Rattle.pybuf_struct.specs.Values.{unpacked_values}
use Rattle.pybuf_struct.specs.Packing.{packed_bytes}

-- ---- what a text says, whatever its codes are

-- the size of the format that a text spells
abbrev pub size_by : List ℕ → Result ℕ Fault
size_by text = format_of text >>= λ format. Ok format.size

-- the values that bytes are read as
abbrev pub values_by : List ℕ → List ℕ → Result (List Scalar) Fault
values_by text bytes = format_of text >>= λ format. unpacked_values format bytes

-- the bytes that values are written as
abbrev pub bytes_by : List ℕ → List (ℕ × Snap) → List Scalar → Result (List ℕ) Fault
bytes_by text pairs args = format_of text >>= λ format. packed_bytes format pairs args

-- ---- one letter

-- the code of a text that is one letter and nothing else
abbrev pub single_code : List ℕ → Option FormatType
single_code (letter ∷ []) = code_of letter
single_code _ = None

-- whether a code's value is a whole number or a truth value
abbrev pub is_numeric : FormatType → Bool
is_numeric code.Pad = false
is_numeric code.Char = false
is_numeric code.Str = false
is_numeric code.Pascal = false
is_numeric _ = true

abbrev pub numeric_alone : Option FormatType → Option FormatType
numeric_alone (Some c) = if is_numeric c then Some c else None
numeric_alone None = None

-- the same, if the code's value is a whole number or a truth value
abbrev pub numeric_code : List ℕ → Option FormatType
numeric_code text = numeric_alone (single_code text)

-- whether there is such a code, and its values take this many bytes
abbrev pub is_as_long : Option FormatType → ℕ → Bool
is_as_long (Some c) n = n == size_of order.Native c
is_as_long None n = false

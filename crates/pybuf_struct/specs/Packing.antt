-- Writing values by a format.
use Rattle.std.specs.Prelude.{ℕ, zero, suc, ◌+◌, ◌-◌, ◌*◌, ◌^◌, ◌==◌, min, Bool, true, false, List, [], ◌∷◌, ◌++◌, take, drop, length, replicate, ℤ, pos, negsuc, nat_lt, Result, Ok, Err, if◌then◌else◌}
use Rattle.std.specs.Int.{bytes_low_first, bytes_high_first}
use Rattle.pybuf_value.specs.declared.faults.Fault.{Fault}
use Rattle.pybuf_value.specs.declared.faults.Fault.TheVariants as fault
use Rattle.pybuf_value.specs.declared.values.Scalar.{Scalar}
use Rattle.pybuf_value.specs.declared.values.Scalar.TheVariants as scalar
use Rattle.pybuf_value.specs.declared.snaps.Snap.{Snap}
use Rattle.pybuf_value.specs.Numbers.{number_in}
use Rattle.pybuf_value.specs.Refusing.{◌>>=◌}
use Rattle.pybuf_value.specs.Snaps.{bytes_like, bytes_alone}
use Rattle.pybuf_struct.specs.declared.table.Endianness.{Endianness}
use Rattle.pybuf_struct.specs.declared.table.FormatType.{FormatType}
use Rattle.pybuf_struct.specs.declared.table.FormatType.TheVariants as code
use Rattle.pybuf_struct.specs.Table.{is_big, is_signed}
use Rattle.pybuf_struct.specs.Formats.{Format, Field, fields}

-- ---- numbers

-- whether a number fits in this many bytes, either signed or not
abbrev pub is_in_range : Bool → ℕ → ℤ → Bool
is_in_range true size (pos n) = nat_lt (2 * n) (256 ^ size)
is_in_range true size (negsuc n) = nat_lt (2 * n) (256 ^ size)
is_in_range false size (pos n) = nat_lt n (256 ^ size)
is_in_range false size (negsuc n) = false

-- a number as it stands in this many bytes; a negative one is in two's complement
abbrev pub complement_of : ℕ → ℤ → ℕ
complement_of size (pos n) = n
complement_of size (negsuc n) = 256 ^ size - suc n

-- the digits of a number in base 256, this many of them, either big-endian or little-endian
abbrev pub digits_of : Bool → ℕ → ℕ → List ℕ
digits_of true size n = bytes_high_first size n
digits_of false size n = bytes_low_first 0 size n

-- the bytes of a number; a value that is no number is refused, and so is a number out of range
abbrev pub number_bytes : Bool → Bool → ℕ → Result ℤ Fault → Result (List ℕ) Fault
number_bytes big signed size (Ok n) = if is_in_range signed size n then Ok (digits_of big size (complement_of size n)) else Err fault.Struct
number_bytes big signed size (Err f) = Err fault.Struct

-- ---- truth values and bytes

-- the byte is 1 for True and for every number but 0
abbrev pub truth_byte : Scalar → Result ℕ Fault
truth_byte (scalar.Bool true) = Ok 1
truth_byte (scalar.Bool false) = Ok 0
truth_byte (scalar.Int (pos zero)) = Ok 0
truth_byte (scalar.Int _) = Ok 1
truth_byte _ = Err fault.Kind

-- this many bytes: the first ones, or all of them and then zeros
abbrev pub fitted_to : ℕ → List ℕ → List ℕ
fitted_to n bytes = take n bytes ++ replicate (n - length bytes) 0

-- the bytes, if there is exactly one
abbrev pub single_byte : List ℕ → Result (List ℕ) Fault
single_byte bytes = if length bytes == 1 then Ok bytes else Err fault.Struct

-- a Pascal string: its length in one byte, and then its bytes
abbrev pub pascal_bytes : ℕ → List ℕ → List ℕ
pascal_bytes room bytes = min (length bytes) (min room 255) ∷ fitted_to room bytes

-- the bytes of a field that holds a Pascal string; a field without bytes doesn't look at its value
abbrev pub pascal_field : ℕ → Result (List ℕ) Fault → Result (List ℕ) Fault
pascal_field len content = if len == 0 then Ok [] else (do
  bytes ← content
  Ok (pascal_bytes (len - 1) bytes))

-- ---- fields

-- the bytes that a field of a code and a length gets from a value, or why the value is refused
abbrev pub bytes_of : Endianness → List (ℕ × Snap) → FormatType → ℕ → Scalar → Result (List ℕ) Fault
bytes_of o pairs code.Pad len v = Err fault.Struct
bytes_of o pairs code.Char len v = do
  bytes ← bytes_alone pairs v
  single_byte bytes
bytes_of o pairs code.Bool len v = do
  byte ← truth_byte v
  Ok (byte ∷ [])
bytes_of o pairs code.Str len v = do
  bytes ← bytes_like pairs v
  Ok (fitted_to len bytes)
bytes_of o pairs code.Pascal len v = pascal_field len (bytes_like pairs v)
bytes_of o pairs c len v = number_bytes (is_big o) (is_signed c) len (number_in v)

-- the bytes of each field, or the first refusal
unfoldable pub contents_of : Endianness → List (ℕ × Snap) → List Field → List Scalar → Result (List (List ℕ)) Fault
contents_of o pairs [] [] = Ok []
contents_of o pairs [] (v ∷ vs) = Err fault.Struct
contents_of o pairs (f ∷ fs) [] = Err fault.Struct
contents_of o pairs (f ∷ fs) (v ∷ vs) = do
  bytes ← bytes_of o pairs f.code f.length v
  others ← contents_of o pairs fs vs
  Ok (bytes ∷ others)

-- a list in which these bytes stand from an offset on
abbrev pub room_with : ℕ → List ℕ → List ℕ → List ℕ
room_with offset bytes room = take offset room ++ (bytes ++ drop (offset + length bytes) room)

-- a list in which the bytes of each field stand at its place
abbrev pub room_with_fields : List Field → List (List ℕ) → List ℕ → List ℕ
room_with_fields (f ∷ fs) (bytes ∷ others) room = room_with_fields fs others (room_with f.offset bytes room)
room_with_fields [] contents room = room
room_with_fields (f ∷ fs) [] room = room

-- the same, unless a field refuses its value
abbrev pub room_with_contents : List Field → Result (List (List ℕ)) Fault → List ℕ → Result (List ℕ) Fault
room_with_contents fs contents room = contents >>= λ all. Ok (room_with_fields fs all room)

-- the bytes of the format's size that hold each field's bytes at its place, and zeros elsewhere
abbrev pub packed_values : Format → List (ℕ × Snap) → List Scalar → Result (List ℕ) Fault
packed_values f pairs values = room_with_contents (fields f) (contents_of f.order pairs (fields f) values) (replicate f.size 0)

-- The bytes of values in a format. A wrong number of values is refused first. Then the first value from the left that
-- its field refuses decides.
abbrev pub packed_bytes : Format → List (ℕ × Snap) → List Scalar → Result (List ℕ) Fault
packed_bytes f pairs values = if length values == length (fields f) then packed_values f pairs values else Err fault.Struct

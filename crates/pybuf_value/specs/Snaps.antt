-- What handles name, and the bytes that a value or a handle stands for.
use Rattle.std.specs.Prelude.{ℕ, ◌==◌, Bool, true, false, List, [], ◌∷◌, Option, Some, None, Result, Ok, Err, if◌then◌else◌}
use Rattle.pybuf_value.specs.declared.faults.Fault.{Fault}
use Rattle.pybuf_value.specs.declared.faults.Fault.TheVariants as fault
use Rattle.pybuf_value.specs.declared.values.Scalar.{Scalar}
use Rattle.pybuf_value.specs.declared.values.Scalar.TheVariants as scalar
use Rattle.pybuf_value.specs.declared.values.Value.{Value}
use Rattle.pybuf_value.specs.declared.values.Value.TheVariants as value
use Rattle.pybuf_value.specs.Refusing.{◌>>=◌}
use Rattle.pybuf_value.specs.Numbers.{number_in, byte_of}
use Rattle.pybuf_value.specs.declared.snaps.Snap.{Snap}
use Rattle.pybuf_value.specs.declared.snaps.SnapKind.{SnapKind}
use Rattle.pybuf_value.specs.declared.snaps.SnapKind.TheVariants as kind

-- whether it is an iterator, which has no bytes
abbrev pub is_iterator : SnapKind → Bool
is_iterator kind.Iterator = true
is_iterator _ = false

-- the snap of the first pair with this handle
abbrev pub snap_of : List (ℕ × Snap) → ℕ → Option Snap
snap_of [] h = None
snap_of (pair ∷ pairs) h = if pair.0 == h then Some pair.1 else snap_of pairs h

-- the bytes of a view; a released view is refused, and so is one whose items don't lie one after another
abbrev pub content_of_view : Bool → Bool → List ℕ → Result (List ℕ) Fault
content_of_view true contiguous content = Err fault.Value
content_of_view false true content = Ok content
content_of_view false false content = Err fault.Kind

abbrev pub content_of_kind : SnapKind → Bool → Bool → List ℕ → Result (List ℕ) Fault
content_of_kind kind.Iterator released contiguous content = Err fault.Kind
content_of_kind kind.View released contiguous content = content_of_view released contiguous content
content_of_kind _ released contiguous content = Ok content

-- the bytes of what a handle names; a handle that was never given is refused first
abbrev pub content_of : Option Snap → Result (List ℕ) Fault
content_of None = Err fault.UnknownName
content_of (Some snap) = content_of_kind snap.kind snap.released snap.contiguous snap.content

-- the bytes of a bytes value, or of the exporter or view that a handle names
abbrev pub bytes_like : List (ℕ × Snap) → Scalar → Result (List ℕ) Fault
bytes_like pairs (scalar.Bytes bytes) = Ok bytes
bytes_like pairs (scalar.Handle h) = content_of (snap_of pairs h)
bytes_like pairs _ = Err fault.Kind

-- the same for a value; a value with parts has no such bytes
abbrev pub like_in : List (ℕ × Snap) → Value → Result (List ℕ) Fault
like_in pairs (value.One s) = bytes_like pairs s
like_in pairs _ = Err fault.Kind

-- the bytes of an exporter, if its kind is bytes
abbrev pub content_if_bytes : SnapKind → List ℕ → Result (List ℕ) Fault
content_if_bytes kind.Bytes content = Ok content
content_if_bytes _ content = Err fault.Kind

abbrev pub content_of_bytes : Option Snap → Result (List ℕ) Fault
content_of_bytes None = Err fault.UnknownName
content_of_bytes (Some snap) = content_if_bytes snap.kind snap.content

-- the bytes of a bytes value, or of what a handle names, if that is an exporter whose kind is bytes
abbrev pub bytes_alone : List (ℕ × Snap) → Scalar → Result (List ℕ) Fault
bytes_alone pairs (scalar.Bytes bytes) = Ok bytes
bytes_alone pairs (scalar.Handle h) = content_of_bytes (snap_of pairs h)
bytes_alone pairs _ = Err fault.Kind

-- ---- arguments that are read as bytes

-- the bytes of a view, whose items may lie apart; a released view is refused
abbrev pub content_if_unreleased : Bool → List ℕ → Result (List ℕ) Fault
content_if_unreleased true content = Err fault.Value
content_if_unreleased false content = Ok content

abbrev pub content_read : SnapKind → Bool → List ℕ → Result (List ℕ) Fault
content_read kind.Iterator released content = Err fault.Kind
content_read kind.View released content = content_if_unreleased released content
content_read _ released content = Ok content

abbrev pub content_of_named : Option Snap → Result (List ℕ) Fault
content_of_named None = Err fault.UnknownName
content_of_named (Some snap) = content_read snap.kind snap.released snap.content

-- the byte that a part of a list is: the part must be a number, and then the number must be in range
abbrev pub byte_in_scalar : Scalar → Result ℕ Fault
byte_in_scalar s = do
  n ← number_in s
  byte_of n

-- the bytes that the parts of a list are; the first part that isn't a byte is refused
abbrev pub bytes_in_parts : List Scalar → Result (List ℕ) Fault
bytes_in_parts [] = Ok []
bytes_in_parts (s ∷ parts) = do
  byte ← byte_in_scalar s
  bytes ← bytes_in_parts parts
  Ok (byte ∷ bytes)

-- The bytes that a value is read as. A bytes value has its own bytes, and a handle has those of the exporter or the
-- view that it names. A list or a tuple has one byte for each of its parts.
abbrev pub bytes_in : List (ℕ × Snap) → Value → Result (List ℕ) Fault
bytes_in pairs (value.One (scalar.Bytes bytes)) = Ok bytes
bytes_in pairs (value.One (scalar.Handle h)) = content_of_named (snap_of pairs h)
bytes_in pairs (value.Tuple parts) = bytes_in_parts parts
bytes_in pairs (value.List parts) = bytes_in_parts parts
bytes_in pairs _ = Err fault.Kind

-- the bytes of an exporter, if it is Python's `bytes` or `bytearray`
abbrev pub content_of_string : SnapKind → List ℕ → Option (List ℕ)
content_of_string kind.Bytes content = Some content
content_of_string kind.ByteArray content = Some content
content_of_string _ content = None

abbrev pub string_of_named : Option Snap → Option (List ℕ)
string_of_named None = None
string_of_named (Some snap) = content_of_string snap.kind snap.content

-- the bytes of a bytes value or of such an exporter; any other value has none
abbrev pub string_bytes_of : List (ℕ × Snap) → Value → Option (List ℕ)
string_bytes_of pairs (value.One (scalar.Bytes bytes)) = Some bytes
string_bytes_of pairs (value.One (scalar.Handle h)) = string_of_named (snap_of pairs h)
string_bytes_of pairs _ = None

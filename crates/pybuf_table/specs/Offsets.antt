-- One record at an offset, as `unpack_from` and `pack_into` of Python's `struct` page have it.
use Rattle.std.specs.Prelude.{ℕ, suc, ◌+◌, ◌-◌, nat_le, ℤ, pos, negsuc, List, length, not, Result, Ok, Err, if◌then◌else◌}
use Rattle.pybuf_value.specs.declared.faults.Fault.{Fault}
use Rattle.pybuf_value.specs.declared.faults.Fault.TheVariants as fault
use Rattle.pybuf_value.specs.declared.values.Scalar.{Scalar}
use Rattle.pybuf_value.specs.declared.snaps.Snap.{Snap}
use Rattle.pybuf_value.specs.Refusing.{◌>>=◌, unless}
use Rattle.pybuf_struct.specs.Formats.{Format}
use Rattle.pybuf_struct.specs.Packing.{packed_bytes}
use Rattle.pybuf_struct.specs.Offsets.{unpacked_from, put_at}

-- The place that an offset names among `len` bytes. A negative offset counts from their end, and one before
-- their beginning is `StructError`.
abbrev pub place_of : ℕ → ℤ → Result ℕ Fault
place_of len (pos n) = Ok n
place_of len (negsuc n) = if nat_le (suc n) len then Ok (len - suc n) else Err fault.Struct

-- the values of the record at an offset
abbrev pub row_from : Format → ℤ → List ℕ → Result (List Scalar) Fault
row_from f offset bytes = do
  place ← place_of (length bytes) offset
  unpacked_from f place bytes

-- The bytes after a record of values is written at an offset. Every byte before and after the record stays. If
-- fewer bytes than a record are there, the call is refused before it looks at the values.
abbrev pub with_record : Format → List (ℕ × Snap) → List Scalar → ℤ → List ℕ → Result (List ℕ) Fault
with_record f pairs args offset room = do
  place ← place_of (length room) offset
  _ ← unless (not (nat_le (place + f.size) (length room))) fault.Struct
  bytes ← packed_bytes f pairs args
  Ok (put_at place bytes room)

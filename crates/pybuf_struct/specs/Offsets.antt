-- Values that are read from bytes at an offset, and written into them.
use Rattle.std.specs.Prelude.{◌+◌, ℕ, nat_le, List, [], ◌++◌, length, take, drop, Result, Ok, Err, if◌then◌else◌}
use Rattle.pybuf_value.specs.declared.faults.Fault.{Fault}
use Rattle.pybuf_value.specs.declared.faults.Fault.TheVariants as fault
use Rattle.pybuf_value.specs.Refusing.{◌>>=◌}
use Rattle.pybuf_value.specs.declared.values.Scalar.{Scalar}
use Rattle.pybuf_struct.specs.Formats.{Format}
use Rattle.pybuf_struct.specs.Values.{unpacked_values}
use Rattle.pybuf_struct.specs.Packing.{packed_bytes}

-- the values of as many bytes as the format's size, from an offset on; fewer bytes are refused with `StructError`
abbrev pub unpacked_from : Format → ℕ → List ℕ → Result (List Scalar) Fault
unpacked_from f offset bytes =
    if nat_le (offset + f.size) (length bytes) then unpacked_values f (take f.size (drop offset bytes)) else Err fault.Struct

-- the room with these bytes in place of as many, from an offset on
abbrev pub put_at : ℕ → List ℕ → List ℕ → List ℕ
put_at offset bytes room = take offset room ++ bytes ++ drop (offset + length bytes) room

-- the room with the bytes of values at an offset; it is refused with `StructError` if the values don't fit there
abbrev pub packed_at : Format → List Scalar → ℕ → List ℕ → Result (List ℕ) Fault
packed_at f values offset room =
    if nat_le (offset + f.size) (length room) then (packed_bytes f [] values >>= λ bytes. Ok (put_at offset bytes room)) else Err fault.Struct

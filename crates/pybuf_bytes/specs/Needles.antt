-- What is searched for.
use Rattle.std.specs.Prelude.{ℕ, ℤ, List, [], ◌∷◌, Result, Ok, Err}
use Rattle.pybuf_value.specs.declared.faults.Fault.{Fault}
use Rattle.pybuf_value.specs.declared.snaps.Snap.{Snap}
use Rattle.pybuf_value.specs.declared.values.Value.{Value}
use Rattle.pybuf_value.specs.Refusing.{◌>>=◌}
use Rattle.pybuf_value.specs.Numbers.{number_of, byte_of}
use Rattle.pybuf_value.specs.Snaps.{bytes_in}
use Rattle.pybuf_bytes.specs.declared.needles.Needle.{Needle}
use Rattle.pybuf_bytes.specs.declared.needles.Needle.TheVariants as needle

-- the bytes that are searched for; a number stands for one byte
abbrev pub needle_bytes : Needle → Result (List ℕ) Fault
needle_bytes (needle.Bytes bytes) = Ok bytes
needle_bytes (needle.Number n) = do
  byte ← byte_of n
  Ok (byte ∷ [])

-- a number as a needle, if it is a byte
abbrev pub number_needle : ℤ → Result Needle Fault
number_needle n = do
  _ ← byte_of n
  Ok (needle.Number n)

-- a value as a needle: a number stands for one byte, and any other value for its bytes
abbrev pub needle_by : List (ℕ × Snap) → Value → Result ℤ Fault → Result Needle Fault
needle_by pairs v (Ok n) = number_needle n
needle_by pairs v (Err _) = do
  bytes ← bytes_in pairs v
  Ok (needle.Bytes bytes)

abbrev pub needle_in : List (ℕ × Snap) → Value → Result Needle Fault
needle_in pairs v = needle_by pairs v (number_of v)

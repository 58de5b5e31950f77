-- Keys of sequences, and `slice.indices` of Python's data model.
use Rattle.std.specs.Prelude.{ℤ, pos, negsuc, Result, Ok, Err}
use Rattle.pybuf_value.specs.declared.faults.Fault.{Fault}
use Rattle.pybuf_value.specs.declared.faults.Fault.TheVariants as fault
use Rattle.pybuf_value.specs.declared.values.Value.{Value}
use Rattle.pybuf_value.specs.declared.values.Value.TheVariants as value
use Rattle.pybuf_value.specs.declared.values.PySlice.{PySlice}
use Rattle.pybuf_value.specs.Numbers.{number_in, fitted_number}
use Rattle.pybuf_value.specs.Refusing.{◌>>=◌}
use Rattle.pybuf_index.specs.declared.keys.SequenceIndex.{SequenceIndex}
use Rattle.pybuf_index.specs.declared.keys.SequenceIndex.TheVariants as index
use Rattle.pybuf_index.specs.Picks.{start_of, stop_of}
use Rattle.pybuf_index.specs.Parts.{parts_of, saturated_parts_of}

-- the start, the stop and the step that a slice has for a sequence of this length, which may not be negative
abbrev pub indices_of : ℤ → PySlice → Result (ℤ × ℤ × ℤ) Fault
indices_of (negsuc k) slice = Err fault.Value
indices_of (pos n) slice = do
  parts ← parts_of slice
  Ok (start_of n parts.start parts.step, stop_of n parts.stop parts.step, parts.step)

-- a key of a sequence: a number that fits `isize`, or a slice
abbrev pub sequence_index_of : Value → Result SequenceIndex Fault
sequence_index_of (value.One s) = do
  number ← number_in s
  place ← fitted_number fault.Index number
  Ok (index.Int place)
sequence_index_of (value.Slice s) = do
  parts ← saturated_parts_of s
  Ok (index.Slice parts)
sequence_index_of _ = Err fault.Kind

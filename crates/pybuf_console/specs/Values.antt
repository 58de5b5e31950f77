-- Values of commands, made of the numbers and bytes that a caller passes.
use Rattle.std.specs.Prelude.{ℕ, ℤ, Bool, true, false, List, map, Some, None}
use Rattle.pybuf_value.specs.declared.values.Scalar.{Scalar}
use Rattle.pybuf_value.specs.declared.values.Scalar.TheVariants as scalar
use Rattle.pybuf_value.specs.declared.values.PySlice.{PySlice}
use Rattle.pybuf_value.specs.declared.values.Value.{Value}
use Rattle.pybuf_value.specs.declared.values.Value.TheVariants as value
use Rattle.pybuf_command.specs.declared.options.ByteInnerNewOptions.{ByteInnerNewOptions}
use Rattle.pybuf_console.specs.declared.values.SliceWords.{SliceWords}

abbrev pub number_value : ℤ → Value
number_value number = value.One (scalar.Int number)

abbrev pub bytes_value : List ℕ → Value
bytes_value bytes = value.One (scalar.Bytes bytes)

abbrev pub object_value : ℕ → Value
object_value handle = value.One (scalar.Handle handle)

-- a part of a slice, which may be None
abbrev pub part_of : Bool → ℤ → Scalar
part_of false number = scalar.None
part_of true number = scalar.Int number

abbrev pub slice_of : SliceWords → PySlice
slice_of words = record {
  start = part_of words.has_start words.start;
  stop = part_of words.has_stop words.stop;
  step = part_of words.has_step words.step;
}

-- the options of an exporter that is made of bytes
abbrev pub source_of : List ℕ → ByteInnerNewOptions
source_of bytes = record { source = Some (bytes_value bytes); encoding = None; errors = None }

abbrev pub text_value : List ℕ → Value
text_value text = value.One (scalar.Text text)

abbrev pub tuple_of : List ℤ → Value
tuple_of numbers = value.Tuple (map scalar.Int numbers)

-- Which edits ask for another length, once they have passed the checks before that.
use Rattle.std.specs.Prelude.{◌==◌, Bool, true, false, not, ◌&&◌, length, Result, Ok, Err, if◌then◌else◌, List}
use Rattle.pybuf_value.specs.declared.faults.Fault.{Fault}
use Rattle.pybuf_value.specs.declared.faults.Fault.TheVariants as fault
use Rattle.pybuf_value.specs.declared.values.Value.{Value}
use Rattle.pybuf_value.specs.declared.values.Value.TheVariants as value
use Rattle.pybuf_value.specs.Refusing.{◌>>=◌, unless}
use Rattle.pybuf_value.specs.Numbers.{count_in, byte_in}
use Rattle.pybuf_value.specs.Snaps.{bytes_in, like_in}
use Rattle.pybuf_index.specs.Parts.{saturated_parts_of, picks_of}
use Rattle.pybuf_slice.specs.Edits.{is_one}
use Rattle.pybuf_bytes.specs.Options.{bytes_of_options}
use Rattle.pybuf_command.specs.declared.commands.Verb.{Verb}
use Rattle.pybuf_command.specs.declared.commands.Verb.TheVariants as verb
use Rattle.pybuf_memoryview.specs.Items.{index_in}
use Rattle.pybuf_state.specs.Exporter.{Exporter}
use Rattle.pybuf_state.specs.Keeps.{is_vector}
use Rattle.pybuf_state.specs.Loans.{Lent, snaps_of}
use Rattle.pybuf_command.specs.Kinds.{of_byte_array}
use Rattle.pybuf_verbs_edits.specs.Common.{is_itself}
use Rattle.pybuf_verbs_edits.specs.Shrinking.{count_or_last}

-- The check passes, whatever was read.
abbrev pub passed : {X : Type 0} → Result X Fault → Result Bool Fault
passed (Ok x) = Ok true
passed (Err f) = Err f

-- the check of a key, which is an index or a slice
abbrev pub key_passed : Value → Result Bool Fault
key_passed (value.Slice slice) = passed (saturated_parts_of slice)
key_passed key = passed (index_in key)

-- An assignment to a slice asks for nothing if it gets as many bytes as the slice picks.
abbrev pub assignment_asks : Exporter → Value → Value → List Lent → Result Bool Fault
assignment_asks e (value.Slice slice) v lents = do
  parts ← saturated_parts_of slice
  bytes ← bytes_in (snaps_of lents) v
  Ok (not (length (picks_of (length e.bytes) parts) == length bytes))
assignment_asks e _ v lents = Ok false

-- The checks of an edit of a bytearray before it asks. They give `Ok true` if the edit then asks for another
-- length, `Ok false` if it doesn't, and otherwise the refusal.
abbrev pub byte_array_asks : Exporter → Verb → List Lent → Result Bool Fault
byte_array_asks e (verb.Append v) lents = passed (byte_in v)
byte_array_asks e (verb.Extend v) lents = if is_itself v lents then Ok (not (length e.bytes == 0)) else passed (bytes_in (snaps_of lents) v)
byte_array_asks e (verb.Insert index v) lents = do
  _ ← count_in index
  passed (byte_in v)
byte_array_asks e (verb.Pop index) lents = passed (count_or_last index)
byte_array_asks e (verb.Remove v) lents = passed (byte_in v)
byte_array_asks e verb.Clear lents = Ok true
byte_array_asks e (verb.Del key) lents = key_passed key
byte_array_asks e (verb.IAdd v) lents = do
  _ ← like_in (snaps_of lents) v
  _ ← unless (is_itself v lents) fault.Buffer
  Ok true
byte_array_asks e (verb.IMul count) lents = do
  number ← count_in count
  Ok (not (is_one number) && not (length e.bytes == 0))
byte_array_asks e (verb.Init options) lents = passed (bytes_of_options (snaps_of lents) options.source options.encoding options.errors)
byte_array_asks e (verb.Set key v) lents = assignment_asks e key v lents
byte_array_asks e _ lents = Ok false

-- The same of every exporter: `take` of a vector always asks, and no other edit of a vector does.
abbrev pub asks : Exporter → Verb → List Lent → Result Bool Fault
asks e verb.Take lents = if is_vector e.kind then Ok true else Ok false
asks e v lents = of_byte_array e.kind (byte_array_asks e v lents)

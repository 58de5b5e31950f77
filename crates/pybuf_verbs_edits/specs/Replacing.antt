-- Edits that put bytes in place of others.
use Rattle.std.specs.Prelude.{ℕ, ◌==◌, not, ◌&&◌, List, length, reverse, Result, Ok}
use Rattle.pybuf_value.specs.declared.faults.Fault.{Fault}
use Rattle.pybuf_value.specs.declared.faults.Fault.TheVariants as fault
use Rattle.pybuf_value.specs.declared.values.PySlice.{PySlice}
use Rattle.pybuf_value.specs.declared.values.Value.{Value}
use Rattle.pybuf_value.specs.Refusing.{◌>>=◌, unless}
use Rattle.pybuf_value.specs.Snaps.{bytes_in}
use Rattle.pybuf_index.specs.Parts.{SliceParts, saturated_parts_of, picks_of}
use Rattle.pybuf_slice.specs.Edits.{assigned_list, is_one}
use Rattle.pybuf_command.specs.declared.options.ByteInnerNewOptions.{ByteInnerNewOptions}
use Rattle.pybuf_bytes.specs.Options.{bytes_of_options}
use Rattle.pybuf_command.specs.declared.commands.LocalReply.{LocalReply}
use Rattle.pybuf_command.specs.declared.commands.LocalReply.TheVariants as reply
use Rattle.pybuf_state.specs.Exporter.{Exporter}
use Rattle.pybuf_state.specs.Resizing.{has_exports, resizable}
use Rattle.pybuf_state.specs.Loans.{Lent, snaps_of}
use Rattle.pybuf_state.specs.Snaps.{snap_of_exporter}
use Rattle.pybuf_command.specs.Kinds.{of_byte_array}
use Rattle.pybuf_verbs_edits.specs.Common.{with_bytes}

-- ---- `set` by a slice

-- An assignment of another number of bytes than the slice picks asks for another length. Only a slice of step 1
-- can have one.
abbrev pub assigned : Exporter → SliceParts → List ℕ → Result (Exporter × LocalReply) Fault
assigned e parts bytes = do
  _ ← unless (has_exports e && not (length (picks_of (length e.bytes) parts) == length bytes)) fault.Buffer
  _ ← unless (not (is_one parts.step) && not (length (picks_of (length e.bytes) parts) == length bytes)) fault.Value
  Ok (with_bytes e (assigned_list e.bytes parts bytes))

abbrev pub assigned_from : Exporter → SliceParts → Value → List Lent → Result (Exporter × LocalReply) Fault
assigned_from e parts v lents = do
  bytes ← bytes_in (snaps_of lents) v
  assigned e parts bytes

abbrev pub slice_set : Exporter → PySlice → Value → List Lent → Result (Exporter × LocalReply) Fault
slice_set e slice v lents = do
  parts ← saturated_parts_of slice
  assigned_from e parts v lents

abbrev pub assign_of_own : Exporter → PySlice → Value → List Lent → Result (Exporter × LocalReply) Fault
assign_of_own e slice v lents = of_byte_array e.kind (slice_set e slice v lents)

-- ---- `init`: the bytes of the options replace all bytes

abbrev pub replaced_all : Exporter → List ℕ → Result (Exporter × LocalReply) Fault
replaced_all e bytes = do
  _ ← resizable e
  Ok (with_bytes e bytes)

abbrev pub initialized : Exporter → ByteInnerNewOptions → List Lent → Result (Exporter × LocalReply) Fault
initialized e options lents = do
  bytes ← bytes_of_options (snaps_of lents) options.source options.encoding options.errors
  replaced_all e bytes

abbrev pub init_of_own : Exporter → ByteInnerNewOptions → List Lent → Result (Exporter × LocalReply) Fault
init_of_own e options lents = of_byte_array e.kind (initialized e options lents)

-- ---- `reverse`: the same bytes from the last to the first, which is allowed while a view is unreleased

abbrev pub reverse_of_own : Exporter → Result (Exporter × LocalReply) Fault
reverse_of_own e = of_byte_array e.kind (Ok (with_bytes e (reverse e.bytes)))

-- ---- `copy`: the bytearray stays as it is, and another is made of its bytes

abbrev pub copy_of_own : Exporter → Result (Exporter × LocalReply) Fault
copy_of_own e = of_byte_array e.kind (Ok (e, reply.Fresh (snap_of_exporter e)))

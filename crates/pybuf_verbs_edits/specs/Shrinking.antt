-- Edits that take bytes out. While a view is unreleased each is refused with `BufferError`.
use Rattle.std.specs.Prelude.{ℕ, ◌+◌, ◌==◌, not, ℤ, negsuc, List, [], length, nat_lt, slice_index, Option, Result, Ok, Err, if◌then◌else◌}
use Rattle.std.specs.List.{position_or_len}
use Rattle.pybuf_value.specs.declared.faults.Fault.{Fault}
use Rattle.pybuf_value.specs.declared.faults.Fault.TheVariants as fault
use Rattle.pybuf_value.specs.declared.values.PySlice.{PySlice}
use Rattle.pybuf_value.specs.declared.values.Value.{Value}
use Rattle.pybuf_value.specs.declared.values.Value.TheVariants as value
use Rattle.pybuf_value.specs.Refusing.{◌>>=◌, unless}
use Rattle.pybuf_value.specs.Numbers.{count_or, byte_in}
use Rattle.pybuf_index.specs.Parts.{saturated_parts_of, picks_of}
use Rattle.pybuf_slice.specs.Edits.{replaced_range, elements_off}
use Rattle.pybuf_index.specs.Places.{entry_in}
use Rattle.pybuf_command.specs.declared.commands.LocalReply.{LocalReply}
use Rattle.pybuf_command.specs.declared.commands.LocalReply.TheVariants as reply
use Rattle.pybuf_memoryview.specs.Items.{index_in, byte_item}
use Rattle.pybuf_state.specs.Exporter.{Exporter, live_layout}
use Rattle.pybuf_state.specs.Keeps.{is_vector}
use Rattle.pybuf_state.specs.Resizing.{resizable}
use Rattle.pybuf_command.specs.Kinds.{of_byte_array}
use Rattle.pybuf_verbs_edits.specs.Common.{with_bytes}

-- the bytes without the one at a place
abbrev pub without : List ℕ → ℕ → List ℕ
without bytes place = replaced_range bytes place (place + 1) []

-- ---- `pop`: the byte at an index, or the last if no index is given

abbrev pub count_or_last : Option Value → Result ℤ Fault
count_or_last index = count_or (negsuc 0) index

abbrev pub popped : Exporter → Option Value → Result (Exporter × LocalReply) Fault
popped e index = do
  number ← count_or_last index
  _ ← resizable e
  place ← entry_in (length e.bytes) number
  Ok ((with_bytes e (without e.bytes place)).0, reply.Item (byte_item (slice_index e.bytes place)))

abbrev pub pop_of_own : Exporter → Option Value → Result (Exporter × LocalReply) Fault
pop_of_own e index = of_byte_array e.kind (popped e index)

-- ---- `remove`: the first byte that has a value

abbrev pub removed : Exporter → Value → Result (Exporter × LocalReply) Fault
removed e v = do
  byte ← byte_in v
  _ ← resizable e
  _ ← unless (not (nat_lt (position_or_len (λ b. b == byte) e.bytes) (length e.bytes))) fault.Value
  Ok (with_bytes e (without e.bytes (position_or_len (λ b. b == byte) e.bytes)))

abbrev pub remove_of_own : Exporter → Value → Result (Exporter × LocalReply) Fault
remove_of_own e v = of_byte_array e.kind (removed e v)

-- ---- `clear`: all bytes

abbrev pub cleared : Exporter → Result (Exporter × LocalReply) Fault
cleared e = do
  _ ← resizable e
  Ok (with_bytes e [])

abbrev pub clear_of_own : Exporter → Result (Exporter × LocalReply) Fault
clear_of_own e = of_byte_array e.kind (cleared e)

-- ---- `del`: the byte at an index, or those that a slice picks

abbrev pub byte_deleted : Exporter → Value → Result (Exporter × LocalReply) Fault
byte_deleted e key = do
  index ← index_in key
  _ ← resizable e
  place ← entry_in (length e.bytes) index
  Ok (with_bytes e (without e.bytes place))

abbrev pub slice_deleted : Exporter → PySlice → Result (Exporter × LocalReply) Fault
slice_deleted e slice = do
  parts ← saturated_parts_of slice
  _ ← resizable e
  Ok (with_bytes e (elements_off e.bytes (picks_of (length e.bytes) parts)))

abbrev pub deleted : Exporter → Value → Result (Exporter × LocalReply) Fault
deleted e (value.Slice slice) = slice_deleted e slice
deleted e key = byte_deleted e key

abbrev pub delete_of_own : Exporter → Value → Result (Exporter × LocalReply) Fault
delete_of_own e key = of_byte_array e.kind (deleted e key)

-- Nothing can be taken out of a view, since its number of items never changes.
abbrev pub delete_of_view : Exporter → ℕ → Result (Exporter × LocalReply) Fault
delete_of_view e k = do
  _ ← live_layout e k
  Err fault.Kind

-- ---- `take`: all bytes of a vector are taken out and replied

abbrev pub taken : Exporter → Result (Exporter × LocalReply) Fault
taken e = do
  _ ← resizable e
  Ok ((with_bytes e []).0, reply.Bytes e.bytes)

abbrev pub take_of_own : Exporter → Result (Exporter × LocalReply) Fault
take_of_own e = if is_vector e.kind then taken e else Err fault.UnknownName

-- `set`: the item at a key is written, and nothing else.
use Rattle.std.specs.Prelude.{ℕ, List, [], ◌∷◌, length, slice_index, Result, Ok}
use Rattle.pybuf_value.specs.declared.faults.Fault.{Fault}
use Rattle.pybuf_value.specs.declared.faults.Fault.TheVariants as fault
use Rattle.pybuf_value.specs.declared.values.Value.{Value}
use Rattle.pybuf_value.specs.Refusing.{◌>>=◌, unless}
use Rattle.pybuf_value.specs.Numbers.{byte_in}
use Rattle.pybuf_index.specs.Places.{entry_in}
use Rattle.pybuf_desc.specs.Layouts.{Layout}
use Rattle.pybuf_command.specs.Kinds.{of_byte_array}
use Rattle.pybuf_command.specs.declared.commands.LocalReply.{LocalReply}
use Rattle.pybuf_command.specs.declared.commands.LocalReply.TheVariants as reply
use Rattle.pybuf_memoryview.specs.Items.{index_in, is_none, piece_by}
use Rattle.pybuf_memoryview.specs.Keys.{item_of_key}
use Rattle.pybuf_state.specs.Exporter.{Exporter, live_layout}
use Rattle.pybuf_state.specs.Loans.{Lent, snaps_of}
use Rattle.pybuf_verbs_writes.specs.Laid.{bytes_with}

-- A byte of a bytearray is set.
abbrev pub byte_set : Exporter → Value → Value → Result (Exporter × LocalReply) Fault
byte_set e key value = do
  index ← index_in key
  byte ← byte_in value
  place ← entry_in (length e.bytes) index
  Ok (record e { bytes = bytes_with e.bytes place (byte ∷ []) }, reply.Ok)

-- Only a bytearray can be written itself.
abbrev pub set_of_own : Exporter → Value → Value → Result (Exporter × LocalReply) Fault
set_of_own e key value = of_byte_array e.kind (byte_set e key value)

-- The item of a number gets the bytes of the value by the view's format. If the value is a handle, it counts as
-- what it is lent as.
abbrev pub item_set : Exporter → Layout → ℕ → Value → List Lent → Result (Exporter × LocalReply) Fault
item_set e layout item value lents = do
  piece ← piece_by layout.format (snaps_of lents) value
  Ok (record e { bytes = bytes_with e.bytes (slice_index layout.starts item) piece }, reply.Ok)

-- where a view is written: its layout, and the number of the item that the key names
abbrev pub set_target : Exporter → ℕ → Value → Value → Result (Layout × ℕ) Fault
set_target e k key value = do
  layout ← live_layout e k
  _ ← unless layout.readonly fault.Kind
  _ ← unless (is_none value) fault.Kind
  item ← item_of_key layout.shape key
  Ok (layout, item)

abbrev pub set_of_view : Exporter → ℕ → Value → Value → List Lent → Result (Exporter × LocalReply) Fault
set_of_view e k key value lents = do
  target ← set_target e k key value
  item_set e target.0 target.1 value lents

-- `get`: the item at a key, or the bytes that a slice picks.
use Rattle.std.specs.Prelude.{◌≡◌, ℕ, ℤ, length, slice_index, Result, Ok, Err, MatchResult, if◌then◌else◌}
use Rattle.pybuf_value.specs.declared.faults.Fault.{Fault}
use Rattle.pybuf_value.specs.declared.faults.Fault.TheVariants as fault
use Rattle.pybuf_value.specs.declared.values.Scalar.TheVariants as scalar
use Rattle.pybuf_value.specs.declared.values.Value.{Value}
use Rattle.pybuf_value.specs.declared.values.Value.TheVariants as value
use Rattle.pybuf_value.specs.Refusing.{◌>>=◌}
use Rattle.pybuf_index.specs.Parts.{saturated_parts_of, picks_of}
use Rattle.pybuf_slice.specs.Reads.{elements_at}
use Rattle.pybuf_index.specs.Places.{entry_in}
use Rattle.pybuf_desc.specs.Layouts.{Layout}
use Rattle.pybuf_desc.specs.Items.{bytes_at}
use Rattle.pybuf_command.specs.declared.kinds.ExporterKind.{ExporterKind}
use Rattle.pybuf_command.specs.declared.kinds.ExporterKind.TheVariants as kind
use Rattle.pybuf_command.specs.declared.commands.LocalReply.{LocalReply}
use Rattle.pybuf_command.specs.declared.commands.LocalReply.TheVariants as reply
use Rattle.pybuf_memoryview.specs.Items.{index_in, byte_item, item_by}
use Rattle.pybuf_memoryview.specs.KeyPlaces.{IsStartOf}
use Rattle.pybuf_memoryview.specs.Keys.{item_of_key, names_itself}
use Rattle.pybuf_state.specs.Exporter.{Exporter, live_layout}

-- the byte of an exporter at an index
abbrev pub byte_of_own : Exporter → Value → Result (Exporter × LocalReply) Fault
byte_of_own e key = do
  index ← index_in key
  place ← entry_in (length e.bytes) index
  Ok (e, reply.Item (byte_item (slice_index e.bytes place)))

abbrev pub part_of_own : Exporter → Value → Result (Exporter × LocalReply) Fault
part_of_own e (value.Slice slice) = do
  parts ← saturated_parts_of slice
  Ok (e, reply.Bytes (elements_at e.bytes (picks_of (length e.bytes) parts)))
part_of_own e key = byte_of_own e key

-- A vector has no items of its own.
abbrev pub get_in_kind : ExporterKind → Result (Exporter × LocalReply) Fault → Result (Exporter × LocalReply) Fault
get_in_kind (kind.Vector r) read = Err fault.UnknownName
get_in_kind _ read = read

-- `get` of an exporter: the byte at an index, or the bytes that a slice picks
abbrev pub get_of_own : Exporter → Value → Result (Exporter × LocalReply) Fault
get_of_own e key = get_in_kind e.kind (part_of_own e key)

-- the item of a view that a key names
abbrev pub item_of_layout : Exporter → Layout → Value → Result (Exporter × LocalReply) Fault
item_of_layout e layout key = do
  item ← item_of_key layout.shape key
  Ok (e, reply.Item (item_by layout.format (bytes_at e.bytes layout.itemsize (slice_index layout.starts item))))

-- `get` of a view: the item that a key names, or the view itself
abbrev pub item_of_view : Exporter → ℕ → Value → Result (Exporter × LocalReply) Fault
item_of_view e k key = do
  layout ← live_layout e k
  if names_itself layout.shape key then Ok (e, reply.Itself) else item_of_layout e layout key

-- of a view: the item at an index
abbrev pub item_at_index : Exporter → ℕ → ℤ → Result (Exporter × LocalReply) Fault
item_at_index e k index = item_of_view e k (value.One (scalar.Int index))

-- the first place of an item of a layout, or the fault with which it isn't found
abbrev pub FindsStart : Layout → Result ℕ Fault → Result ℕ Fault → Type 0
FindsStart layout item result = MatchResult result (λ place. IsStartOf layout item place) (λ fault. item ≡ Err fault)

-- `len`: the number of items.
use Rattle.std.specs.Prelude.{ℕ, length, slice_index, pos, Result, Ok}
use Rattle.pybuf_value.specs.declared.values.Scalar.TheVariants as scalar
use Rattle.pybuf_value.specs.declared.values.Item.{Item}
use Rattle.pybuf_value.specs.declared.values.Item.TheVariants as item
use Rattle.pybuf_value.specs.declared.faults.Fault.{Fault}
use Rattle.pybuf_value.specs.Refusing.{◌>>=◌}
use Rattle.pybuf_command.specs.declared.commands.LocalReply.{LocalReply}
use Rattle.pybuf_command.specs.declared.commands.LocalReply.TheVariants as reply
use Rattle.pybuf_memoryview.specs.Items.{has_dimensions}
use Rattle.pybuf_state.specs.Exporter.{Exporter, live_layout}

abbrev pub count_item : ℕ → Item
count_item n = item.One (scalar.Int (pos n))

-- the number of an exporter's bytes
abbrev pub len_of_own : Exporter → Result (Exporter × LocalReply) Fault
len_of_own e = Ok (e, reply.Item (count_item (length e.bytes)))

-- the first entry of a view's shape
abbrev pub len_of_view : Exporter → ℕ → Result (Exporter × LocalReply) Fault
len_of_view e k = do
  layout ← live_layout e k
  _ ← has_dimensions layout
  Ok (e, reply.Item (count_item (slice_index layout.shape 0)))

-- `hash`: the bytes that a hasher gets.
use Rattle.std.specs.Prelude.{ℕ, not, Result, Ok}
use Rattle.pybuf_value.specs.declared.faults.Fault.{Fault}
use Rattle.pybuf_value.specs.declared.faults.Fault.TheVariants as fault
use Rattle.pybuf_value.specs.Refusing.{◌>>=◌, unless}
use Rattle.pybuf_desc.specs.Items.{content_of_layout}
use Rattle.pybuf_command.specs.Kinds.{holds_readonly}
use Rattle.pybuf_command.specs.declared.commands.LocalReply.{LocalReply}
use Rattle.pybuf_command.specs.declared.commands.LocalReply.TheVariants as reply
use Rattle.pybuf_state.specs.Exporter.{Exporter, live_layout}
use Rattle.pybuf_state.specs.Keeps.{is_vector}

-- `hash` of bytes. A bytearray may change, so it has no hash, and neither has a vector.
abbrev pub hash_of_own : Exporter → Result (Exporter × LocalReply) Fault
hash_of_own e = do
  _ ← unless (is_vector e.kind) fault.UnknownName
  _ ← unless (not (holds_readonly e.kind)) fault.Kind
  Ok (e, reply.Bytes e.bytes)

-- `hash` of a view that can only be read, whatever its format is: the hasher gets the bytes of its items, in
-- order.
abbrev pub hash_of_view : Exporter → ℕ → Result (Exporter × LocalReply) Fault
hash_of_view e k = do
  layout ← live_layout e k
  _ ← unless (not layout.readonly) fault.Value
  Ok (e, reply.Bytes (content_of_layout e.bytes layout))

-- Methods and searches of an exporter's bytes, and the hexadecimal digits of a view's bytes.
use Rattle.std.specs.Prelude.{ℕ, List, Option, Result, Ok, Err}
use Rattle.pybuf_value.specs.declared.faults.Fault.{Fault}
use Rattle.pybuf_value.specs.declared.faults.Fault.TheVariants as fault
use Rattle.pybuf_value.specs.declared.snaps.Snap.{Snap}
use Rattle.pybuf_value.specs.declared.values.Scalar.TheVariants as scalar
use Rattle.pybuf_value.specs.declared.values.Item.TheVariants as item
use Rattle.pybuf_value.specs.declared.values.Value.{Value}
use Rattle.pybuf_value.specs.Refusing.{◌>>=◌, unless}
use Rattle.pybuf_command.specs.declared.methods.MethodCall.{MethodCall}
use Rattle.pybuf_bytes.specs.declared.methods.MethodReply.{MethodReply}
use Rattle.pybuf_bytes.specs.declared.methods.MethodReply.TheVariants as answer
use Rattle.pybuf_methods.specs.Methods.{method_reply}
use Rattle.pybuf_methods.specs.Sought.{contains_in}
use Rattle.pybuf_methods.specs.Shaped.{hex_of}
use Rattle.pybuf_desc.specs.Items.{content_of_layout}
use Rattle.pybuf_command.specs.declared.commands.LocalReply.{LocalReply}
use Rattle.pybuf_command.specs.declared.commands.LocalReply.TheVariants as reply
use Rattle.pybuf_state.specs.Exporter.{Exporter, live_layout}
use Rattle.pybuf_state.specs.Keeps.{is_vector}

-- what a method answers, as a reply
abbrev pub reply_of_answer : MethodReply → LocalReply
reply_of_answer (answer.Bytes bytes) = reply.Bytes bytes
reply_of_answer (answer.ByteLists lists) = reply.ByteLists lists
reply_of_answer (answer.Truth truth) = reply.Truth truth
reply_of_answer (answer.Number n) = reply.Item (item.One (scalar.Int n))
reply_of_answer (answer.Text text) = reply.Text text

-- A method of bytes or of a bytearray. Its arguments may be handles, and the pairs say what these name. A
-- vector has no methods.
abbrev pub call_of_own : Exporter → MethodCall → List (ℕ × Snap) → Result (Exporter × LocalReply) Fault
call_of_own e call pairs = do
  _ ← unless (is_vector e.kind) fault.UnknownName
  given ← method_reply pairs e.bytes call.name call.args
  Ok (e, reply_of_answer given)

-- whether a value stands in bytes or in a bytearray
abbrev pub contains_of_own : Exporter → Value → List (ℕ × Snap) → Result (Exporter × LocalReply) Fault
contains_of_own e v pairs = do
  _ ← unless (is_vector e.kind) fault.UnknownName
  found ← contains_in pairs e.bytes v
  Ok (e, reply.Truth found)

-- The hexadecimal digits of a view's bytes, in row-major order: the last dimension runs fastest.
abbrev pub hex_of_view : Exporter → ℕ → Option Value → Option Value → List (ℕ × Snap) → Result (Exporter × LocalReply) Fault
hex_of_view e k sep group pairs = do
  layout ← live_layout e k
  text ← hex_of pairs sep group (content_of_layout e.bytes layout)
  Ok (e, reply.Text text)

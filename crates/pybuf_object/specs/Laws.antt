-- A call with plain arguments is a command. It changes what its command changes, and its answer is that
-- command's reply in another form.
use Rattle.std.specs.Prelude.{◌≡◌, ℕ, ◌<◌, ℤ, pos, true, false, List, [], Option, None, Some, Result, Ok, Err}
use Rattle.pybuf_value.specs.declared.faults.Fault.{Fault}
use Rattle.pybuf_value.specs.declared.faults.Fault.TheVariants as fault
use Rattle.pybuf_value.specs.declared.values.Scalar.TheVariants as scalar
use Rattle.pybuf_value.specs.declared.values.Value.{Value}
use Rattle.pybuf_value.specs.declared.values.Value.TheVariants as value
use Rattle.pybuf_value.specs.Numbers.{is_word}
use Rattle.pybuf_value.specs.Making.{slice_of}
use Rattle.pybuf_value.specs.Refusing.{◌>>=◌}
use Rattle.pybuf_command.specs.declared.kinds.Subject.TheVariants as subject
use Rattle.pybuf_command.specs.declared.commands.Verb.{Verb}
use Rattle.pybuf_command.specs.declared.commands.Verb.TheVariants as verb
use Rattle.pybuf_command.specs.declared.commands.LocalReply.{LocalReply}
use Rattle.pybuf_command.specs.declared.commands.LocalReply.TheVariants as reply
use Rattle.pybuf_memoryview.specs.Items.{byte_item}
use Rattle.pybuf_state.specs.Exporter.{Exporter}
use Rattle.pybuf_state.specs.Keeps.{is_vector}
use Rattle.pybuf_exporter.specs.Step.{estep, settled_answer}
use Rattle.pybuf_object.specs.Plain.{byte_at, bytes_of_slice, pushed, extended_by, inserted_at, removed_at, popped_last, emptied, put_at}

-- a whole number as a value
abbrev pub number_value : ℤ → Value
number_value n = value.One (scalar.Int n)

-- an answer as the reply of a command
abbrev pub replied : {X : Type 0} → (X → LocalReply) → Result (Exporter × X) Fault → Result (Exporter × LocalReply) Fault
replied form (Ok after) = Ok (after.0, form after.1)
replied form (Err f) = Err f

-- The call is this command on the exporter itself, without loans.
abbrev pub IsCommand : {X : Type 0} → (X → LocalReply) → Exporter → Verb → Result (Exporter × X) Fault → Type 0
IsCommand form e v answer = settled_answer e (replied form answer) ≡ estep e subject.Own v []

-- The reply says nothing more than that the command wasn't refused.
abbrev pub done_reply : Unit {0} → LocalReply
done_reply _ = reply.Ok

abbrev pub byte_reply : ℕ → LocalReply
byte_reply byte = reply.Item (byte_item byte)

-- If there is no byte, Python raises `IndexError`.
abbrev pub byte_or_refusal : Option ℕ → LocalReply
byte_or_refusal None = reply.Refused fault.Index
byte_or_refusal (Some byte) = byte_reply byte

-- `append`
abbrev pub PushAppends : Type 0
PushAppends = (e : Exporter) (byte : ℕ) → byte < 256 → IsCommand done_reply e (verb.Append (number_value (pos byte))) (pushed e byte)

-- `extend` by bytes
abbrev pub SlicesExtend : Type 0
SlicesExtend = (e : Exporter) (bytes : List ℕ) → IsCommand done_reply e (verb.Extend (value.One (scalar.Bytes bytes))) (extended_by e bytes)

-- `insert`
abbrev pub InsertAtInserts : Type 0
InsertAtInserts = (e : Exporter) (index : ℤ) (byte : ℕ) → is_word index ≡ true → byte < 256 → IsCommand done_reply e (verb.Insert (number_value index) (number_value (pos byte))) (inserted_at e index byte)

-- `pop` of an index
abbrev pub RemoveAtPops : Type 0
RemoveAtPops = (e : Exporter) (index : ℤ) → is_word index ≡ true → IsCommand byte_reply e (verb.Pop (Some (number_value index))) (removed_at e index)

-- `pop` without an index
abbrev pub PopLastPops : Type 0
PopLastPops = (e : Exporter) → IsCommand byte_or_refusal e (verb.Pop None) (popped_last e)

-- `clear`
abbrev pub ClearAllClears : Type 0
ClearAllClears = (e : Exporter) → IsCommand done_reply e verb.Clear (emptied e)

-- `set` of an index
abbrev pub SetSets : Type 0
SetSets = (e : Exporter) (index : ℤ) (byte : ℕ) → is_word index ≡ true → byte < 256 → IsCommand done_reply e (verb.Set (number_value index) (number_value (pos byte))) (put_at e index byte)

-- `get` of an index, which a vector doesn't have
abbrev pub GetGets : Type 0
GetGets = (e : Exporter) (index : ℤ) → is_word index ≡ true → is_vector e.kind ≡ false → IsCommand byte_or_refusal e (verb.Get (number_value index)) (Ok (e, byte_at e.bytes index))

abbrev pub with_exporter : {X : Type 0} → Exporter → Result X Fault → Result (Exporter × X) Fault
with_exporter e answer = do
  x ← answer
  Ok (e, x)

-- `get` of a slice
abbrev pub SlicesGet : Type 0
SlicesGet = (e : Exporter) (start stop step : Option ℤ) → is_vector e.kind ≡ false → IsCommand reply.Bytes e (verb.Get (value.Slice (slice_of start stop step))) (with_exporter e (bytes_of_slice e.bytes start stop step))

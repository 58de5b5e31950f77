-- Iterators over the bytes of an exporter and over the items of a view: how one is made, gives its next item,
-- tells how many are left, and is moved to a place.
use Rattle.std.specs.Prelude.{ℕ, ◌+◌, ◌-◌, ◌==◌, Bool, true, false, not, length, slice_get, slice_index, nat_lt, min, ℤ, pos, negsuc, Option, Some, None, Result, Ok, Err, if◌then◌else◌}
use Rattle.std.specs.Option.{option_map}
use Rattle.pybuf_value.specs.declared.faults.Fault.{Fault}
use Rattle.pybuf_value.specs.declared.faults.Fault.TheVariants as fault
use Rattle.pybuf_value.specs.declared.values.Scalar.TheVariants as scalar
use Rattle.pybuf_value.specs.declared.values.Item.{Item}
use Rattle.pybuf_value.specs.declared.values.Item.TheVariants as item
use Rattle.pybuf_value.specs.declared.values.Value.{Value}
use Rattle.pybuf_value.specs.Numbers.{number_of}
use Rattle.pybuf_value.specs.Refusing.{◌>>=◌, unless}
use Rattle.pybuf_desc.specs.Layouts.{Layout}
use Rattle.pybuf_desc.specs.Items.{bytes_at}
use Rattle.pybuf_desc.specs.Slices.{first_entry}
use Rattle.pybuf_command.specs.declared.kinds.Subject.{Subject}
use Rattle.pybuf_command.specs.declared.kinds.Subject.TheVariants as subject
use Rattle.pybuf_command.specs.declared.commands.Verb.{Verb}
use Rattle.pybuf_command.specs.declared.commands.Verb.TheVariants as verb
use Rattle.pybuf_command.specs.declared.commands.LocalReply.{LocalReply}
use Rattle.pybuf_command.specs.declared.commands.LocalReply.TheVariants as reply
use Rattle.pybuf_memoryview.specs.Items.{byte_item, item_by}
use Rattle.pybuf_state.specs.Exporter.{Exporter, Iterator, live_layout, iterator_at, with_iterator, iterator_put}
use Rattle.pybuf_state.specs.Keeps.{is_vector}

-- ---- `iter`: a new iterator at the first item

-- An iterator over bytes. A vector has no items of its own, so it has no iterator.
abbrev pub iter_of_own : Exporter → Result (Exporter × LocalReply) Fault
iter_of_own e = do
  _ ← unless (is_vector e.kind) fault.UnknownName
  Ok (with_iterator e subject.Own)

-- an iterator over the items of a view, whatever the number of its dimensions is
abbrev pub iter_of_view : Exporter → ℕ → Result (Exporter × LocalReply) Fault
iter_of_view e k = do
  layout ← live_layout e k
  Ok (with_iterator e (subject.View k))

-- An iterator is its own iterator.
abbrev pub iter_of_iterator : Exporter → ℕ → Result (Exporter × LocalReply) Fault
iter_of_iterator e k = do
  it ← iterator_at e k
  Ok (e, reply.Itself)

-- ---- `next`: the next item

-- the byte at a position of the bytes as they are now, or none past their end
abbrev pub byte_at : Exporter → ℕ → Option Item
byte_at e position = option_map byte_item (slice_get e.bytes position)

-- The entry of a view at a position is an item if the view has one dimension.
abbrev pub item_at : Exporter → Layout → ℕ → Result (Option Item) Fault
item_at e layout position = do
  _ ← unless (not (length layout.shape == 1)) fault.NotImplemented
  Ok (Some (item_by layout.format (bytes_at e.bytes layout.itemsize (slice_index layout.starts position))))

-- The entry of a view at a position, or none past the end. An iterator over a view goes along its first
-- dimension, and a view without dimensions has one entry.
abbrev pub entry_at : Exporter → Layout → ℕ → Result (Option Item) Fault
entry_at e layout position = if nat_lt position (first_entry layout.shape) then item_at e layout position else Ok None

-- The item of a subject at a position, or none past the end. No iterator goes over any other subject.
abbrev pub item_over : Exporter → Subject → ℕ → Result (Option Item) Fault
item_over e subject.Own position = Ok (byte_at e position)
item_over e (subject.View v) position = do
  layout ← live_layout e v
  entry_at e layout position
item_over e (subject.Iter j) position = Err fault.UnknownName

-- The iterator replies an item and moves to the next position. If no item is left, it is exhausted from now on.
abbrev pub moved_on : Exporter → ℕ → Iterator → Option Item → Exporter × LocalReply
moved_on e k it (Some x) = (iterator_put e k (record it { position = it.position + 1 }), reply.Item x)
moved_on e k it None = (iterator_put e k (record it { exhausted = true }), reply.Stop)

-- An exhausted iterator looks at nothing.
abbrev pub next_unless : Bool → Exporter → ℕ → Iterator → Result (Exporter × LocalReply) Fault
next_unless true e k it = Ok (e, reply.Stop)
next_unless false e k it = do
  x ← item_over e it.subject it.position
  Ok (moved_on e k it x)

abbrev pub next_of_iterator : Exporter → ℕ → Result (Exporter × LocalReply) Fault
next_of_iterator e k = do
  it ← iterator_at e k
  next_unless it.exhausted e k it

-- ---- how many items are left, and the place that an iterator is moved to, for iterators over bytes only

abbrev pub is_over_bytes : Subject → Bool
is_over_bytes subject.Own = true
is_over_bytes _ = false

-- the iterator that has a number, if it goes over bytes
abbrev pub iterator_over_bytes : Exporter → ℕ → Result Iterator Fault
iterator_over_bytes e k = do
  it ← iterator_at e k
  _ ← unless (not (is_over_bytes it.subject)) fault.UnknownName
  Ok it

-- how many items are still to come
abbrev pub items_left : Bool → ℕ → ℕ → ℕ
items_left true count position = 0
items_left false count position = count - position

abbrev pub hint_of_iterator : Exporter → ℕ → Result (Exporter × LocalReply) Fault
hint_of_iterator e k = do
  it ← iterator_over_bytes e k
  Ok (e, reply.Item (item.One (scalar.Int (pos (items_left it.exhausted (length e.bytes) it.position)))))

-- the nearest number from 0 up to a count
abbrev pub clamped : ℕ → ℤ → ℕ
clamped count (pos n) = min n count
clamped count (negsuc n) = 0

abbrev pub put_at : Exporter → ℕ → Iterator → Value → Result (Exporter × LocalReply) Fault
put_at e k it state = do
  number ← number_of state
  Ok (iterator_put e k (record it { position = clamped (length e.bytes) number }), reply.Ok)

-- An exhausted iterator stays as it is, whatever state it is given.
abbrev pub put_unless : Bool → Exporter → ℕ → Iterator → Value → Result (Exporter × LocalReply) Fault
put_unless true e k it state = Ok (e, reply.Ok)
put_unless false e k it state = put_at e k it state

abbrev pub setstate_of_iterator : Exporter → ℕ → Value → Result (Exporter × LocalReply) Fault
setstate_of_iterator e k state = do
  it ← iterator_over_bytes e k
  put_unless it.exhausted e k it state

-- ---- the effect of a verb on an iterator

abbrev pub effect_on_iterator : Exporter → ℕ → Verb → Result (Exporter × LocalReply) Fault
effect_on_iterator e k verb.Iter = iter_of_iterator e k
effect_on_iterator e k verb.Next = next_of_iterator e k
effect_on_iterator e k verb.LengthHint = hint_of_iterator e k
effect_on_iterator e k (verb.SetState state) = setstate_of_iterator e k state
effect_on_iterator e k _ = Err fault.UnknownName

-- Exporters of bytes, the views of them, and the iterators over them. The place of a byte is its number in its
-- exporter.
use Rattle.std.specs.Prelude.{ℕ, List, [], ◌∷◌, ◌++◌, length, set, Bool, true, false, not, nat_lt, Result, Ok, slice_get, count_by}
use Rattle.std.specs.Option.{ok_or}
use Rattle.pybuf_value.specs.declared.faults.Fault.{Fault}
use Rattle.pybuf_value.specs.declared.faults.Fault.TheVariants as fault
use Rattle.pybuf_value.specs.Refusing.{◌>>=◌, unless}
use Rattle.pybuf_slice.specs.Edits.{replaced_range}
use Rattle.pybuf_desc.specs.Layouts.{Layout, bytes_layout}
use Rattle.pybuf_command.specs.declared.kinds.ExporterKind.{ExporterKind}
use Rattle.pybuf_command.specs.Kinds.{holds_readonly}
use Rattle.pybuf_command.specs.declared.kinds.Subject.{Subject}
use Rattle.pybuf_command.specs.declared.kinds.Subject.TheVariants as subject
use Rattle.pybuf_command.specs.declared.commands.LocalReply.{LocalReply}
use Rattle.pybuf_command.specs.declared.commands.LocalReply.TheVariants as reply

-- A view has the length that its exporter had when the view was made, the layout of its items, and whether it was
-- released.
pub record View : Type 0 where
  pub made_at : ℕ
  pub layout : Layout
  pub released : Bool

-- An iterator has the subject that it goes over, the number of the item that comes next, and whether it is exhausted.
pub record Iterator : Type 0 where
  pub subject : Subject
  pub position : ℕ
  pub exhausted : Bool

-- An exporter has its kind, its bytes, and the views and iterators that were made of it, in order.
pub record Exporter : Type 0 where
  pub kind : ExporterKind
  pub bytes : List ℕ
  pub views : List View
  pub iterators : List Iterator

-- an exporter of these bytes, without views and iterators
abbrev pub new_exporter : ExporterKind → List ℕ → Exporter
new_exporter k bytes = record { kind = k; bytes = bytes; views = []; iterators = [] }

-- the layout of all bytes of an exporter, in one dimension and with items of one byte
abbrev pub whole_layout : Exporter → Layout
whole_layout e = bytes_layout (length e.bytes) (holds_readonly e.kind)

abbrev pub is_exported : View → Bool
is_exported v = not v.released

-- the number of unreleased views
abbrev pub exports_of : Exporter → ℕ
exports_of e = count_by is_exported e.views

-- Whether an exporter has a subject. It always has itself. It has a view or an iterator if one with that number was
-- made of it.
abbrev pub has_subject : Exporter → Subject → Bool
has_subject e subject.Own = true
has_subject e (subject.View k) = nat_lt k (length e.views)
has_subject e (subject.Iter k) = nat_lt k (length e.iterators)

-- the view with this number, if it was made
abbrev pub view_at : Exporter → ℕ → Result View Fault
view_at e k = ok_or (slice_get e.views k) fault.UnknownName

-- the layout of the view with this number, which must not be released
abbrev pub live_layout : Exporter → ℕ → Result Layout Fault
live_layout e k = do
  v ← view_at e k
  _ ← unless v.released fault.Value
  Ok v.layout

-- the exporter with one more view, which is made now, and the reply with the view's number
abbrev pub with_view : Exporter → Layout → Exporter × LocalReply
with_view e layout = (
  record e { views = e.views ++ (record { made_at = length e.bytes; layout = layout; released = false }) ∷ [] },
  reply.View (length e.views),
)

-- the exporter after the view with this number is released
abbrev pub released_at : Exporter → ℕ → View → Exporter
released_at e k v = record e { views = set e.views k (record v { released = true }) }

-- the same, if the view may not have been made
abbrev pub released_in : Exporter → ℕ → Result Exporter Fault
released_in e k = do
  v ← view_at e k
  Ok (released_at e k v)

-- the iterator with this number, if it was made
abbrev pub iterator_at : Exporter → ℕ → Result Iterator Fault
iterator_at e k = ok_or (slice_get e.iterators k) fault.UnknownName

-- the exporter with one more iterator, at the first item of its subject, and the reply with the iterator's number
abbrev pub with_iterator : Exporter → Subject → Exporter × LocalReply
with_iterator e s = (
  record e { iterators = e.iterators ++ (record { subject = s; position = 0; exhausted = false }) ∷ [] },
  reply.Iter (length e.iterators),
)

-- the exporter with another iterator in place of the one with this number
abbrev pub iterator_put : Exporter → ℕ → Iterator → Exporter
iterator_put e k it = record e { iterators = set e.iterators k it }

-- the exporter with other bytes in place of those from one place up to another; their number may differ
abbrev pub resized : Exporter → ℕ → ℕ → List ℕ → Exporter
resized e start end bytes = record e { bytes = replaced_range e.bytes start end bytes }

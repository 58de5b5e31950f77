-- `compare`: bytes and bytearrays are compared by their bytes, and views by their items ("Value comparisons" of
-- Python's language reference, and `memoryview.__eq__` of "Binary Sequence Types").
use Rattle.std.specs.Prelude.{ℕ, ◌==◌, Bool, false, ◌&&◌, ◌||◌, not, List, [], ◌∷◌, Option, Some, None, Result, Ok, Err}
use Rattle.pybuf_value.specs.declared.faults.Fault.{Fault}
use Rattle.pybuf_value.specs.declared.faults.Fault.TheVariants as fault
use Rattle.pybuf_value.specs.declared.values.Scalar.TheVariants as scalar
use Rattle.pybuf_value.specs.declared.values.Value.{Value}
use Rattle.pybuf_value.specs.declared.values.Value.TheVariants as value
use Rattle.pybuf_value.specs.declared.values.CompareOp.{CompareOp}
use Rattle.pybuf_value.specs.declared.values.CompareOp.TheVariants as op
use Rattle.pybuf_value.specs.declared.snaps.Snap.{Snap}
use Rattle.pybuf_value.specs.declared.snaps.SnapKind.{SnapKind}
use Rattle.pybuf_value.specs.declared.snaps.SnapKind.TheVariants as snap_kind
use Rattle.pybuf_value.specs.Refusing.{◌>>=◌, unless}
use Rattle.pybuf_value.specs.Order.{order_of, answers, is_order}
use Rattle.pybuf_value.specs.Snaps.{content_of, is_iterator}
use Rattle.pybuf_command.specs.declared.kinds.ExporterKind.{ExporterKind}
use Rattle.pybuf_command.specs.declared.kinds.ExporterKind.TheVariants as kind
use Rattle.pybuf_command.specs.declared.kinds.Subject.{Subject}
use Rattle.pybuf_command.specs.declared.kinds.Subject.TheVariants as subject
use Rattle.pybuf_command.specs.declared.commands.LocalReply.{LocalReply}
use Rattle.pybuf_command.specs.declared.commands.LocalReply.TheVariants as reply
use Rattle.pybuf_equality.specs.Equality.{same_view}
use Rattle.pybuf_state.specs.Exporter.{Exporter, new_exporter, view_at}
use Rattle.pybuf_state.specs.Keeps.{is_vector}
use Rattle.pybuf_state.specs.Loans.{Lent}
use Rattle.pybuf_state.specs.Snaps.{snap_of_exporter, snap_of_view}

-- ---- what a subject is compared with

abbrev pub lent_snap : List Lent → Option Snap
lent_snap [] = None
lent_snap (l ∷ lents) = Some l.snap

-- What a subject is compared with has bytes if it is bytes, which count as an exporter of these bytes, or if a
-- handle names it. Nothing else has bytes.
abbrev pub other_in : Value → List Lent → Option Snap
other_in (value.One (scalar.Bytes bytes)) lents = Some (snap_of_exporter (new_exporter kind.Bytes bytes))
other_in (value.One (scalar.Handle h)) lents = lent_snap lents
other_in _ lents = None

-- ---- an exporter

-- Python's `bytes` has no order with a view.
abbrev pub has_no_order : ExporterKind → CompareOp → SnapKind → Bool
has_no_order kind.Bytes op snap_kind.View = is_order op
has_no_order _ op _ = false

abbrev pub has_no_order_with : ExporterKind → CompareOp → Option Snap → Bool
has_no_order_with k op (Some snap) = has_no_order k op snap.kind
has_no_order_with k op None = false

-- Two strings of bytes are compared byte by byte. If the other has no bytes in a row, they aren't compared.
abbrev pub bytes_compared : List ℕ → CompareOp → Result (List ℕ) Fault → LocalReply
bytes_compared bytes op (Ok other) = reply.Truth (answers op (order_of bytes other))
bytes_compared bytes op (Err f) = reply.NotImplementedReply

-- A string of bytes is compared with the bytes of an exporter, or with those of an unreleased view whose items
-- lie one after the other.
abbrev pub compare_string : Exporter → CompareOp → Option Snap → Result (Exporter × LocalReply) Fault
compare_string e op other = do
  _ ← unless (has_no_order_with e.kind op other) fault.Kind
  Ok (e, bytes_compared e.bytes op (content_of other))

-- `compare` of bytes or of a bytearray. A vector isn't compared.
abbrev pub compare_of_own : Exporter → CompareOp → Value → List Lent → Result (Exporter × LocalReply) Fault
compare_of_own e op other lents = do
  _ ← unless (is_vector e.kind) fault.UnknownName
  compare_string e op (other_in other lents)

-- ---- a view

abbrev pub is_view_of_number : ℕ → Option Subject → Bool
is_view_of_number k (Some (subject.View j)) = j == k
is_view_of_number k _ = false

abbrev pub is_lent_view : ℕ → List Lent → Bool
is_lent_view k [] = false
is_lent_view k (l ∷ lents) = is_view_of_number k l.subject

-- whether a value is the handle of the very view that is compared
abbrev pub is_same_view : ℕ → Value → List Lent → Bool
is_same_view k (value.One (scalar.Handle h)) lents = is_lent_view k lents
is_same_view k _ lents = false

-- Two views are equal if their items are. A released view is equal to none, and an exporter counts as its whole
-- view.
abbrev pub equals_snap : Snap → Option Snap → Bool
equals_snap left (Some right) = not (left.released || right.released) && (not (is_iterator right.kind) && same_view left right)
equals_snap left None = false

-- The same view is equal to itself, even if it is released.
abbrev pub equals_other : ℕ → Snap → Value → List Lent → Bool
equals_other k left other lents = is_same_view k other lents || equals_snap left (other_in other lents)

abbrev pub equality_answer : CompareOp → Bool → Bool
equality_answer op.Ne equal = not equal
equality_answer _ equal = equal

-- `compare` of a view. Views have no order.
abbrev pub compare_of_view : Exporter → ℕ → CompareOp → Value → List Lent → Result (Exporter × LocalReply) Fault
compare_of_view e k op other lents = do
  view ← view_at e k
  _ ← unless (is_order op) fault.Kind
  Ok (e, reply.Truth (equality_answer op (equals_other k (snap_of_view e.bytes view) other lents)))

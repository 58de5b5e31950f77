-- `set` of a view by a slice, as a whole command: which items it copies, and what is there after it.
use Rattle.std.specs.Prelude.{◌≡◌, ◌≢◌, ℕ, ◌*◌, ◌<◌, pos, List, [], length, slice_index, false, Option, Some, None, Ok}
use Rattle.pybuf_value.specs.declared.values.Scalar.TheVariants as scalar
use Rattle.pybuf_value.specs.declared.values.Value.{Value}
use Rattle.pybuf_value.specs.declared.values.Value.TheVariants as value
use Rattle.pybuf_value.specs.declared.values.PySlice.{PySlice}
use Rattle.pybuf_value.specs.declared.snaps.Snap.{Snap}
use Rattle.pybuf_index.specs.Parts.{SliceParts, saturated_parts_of}
use Rattle.pybuf_desc.specs.Layouts.{Layout}
use Rattle.pybuf_desc.specs.Items.{bytes_at}
use Rattle.pybuf_desc.specs.Slices.{slice_of}
use Rattle.pybuf_desc.specs.Apart.{HasItemsApart}
use Rattle.pybuf_command.specs.declared.kinds.ExporterKind.TheVariants as kind
use Rattle.pybuf_command.specs.declared.kinds.Subject.{Subject}
use Rattle.pybuf_command.specs.declared.kinds.Subject.TheVariants as subject
use Rattle.pybuf_command.specs.declared.commands.Verb.TheVariants as verb
use Rattle.pybuf_command.specs.declared.commands.LocalReply.TheVariants as reply
use Rattle.pybuf_command.specs.declared.loans.Loan.{Loan}
use Rattle.pybuf_command.specs.declared.loans.Loan.TheVariants as loan
use Rattle.pybuf_command.specs.Loans.{loan_of}
use Rattle.pybuf_state.specs.Exporter.{Exporter, new_exporter, live_layout}
use Rattle.pybuf_state.specs.Live.{layout_of}
use Rattle.pybuf_state.specs.Loans.{snap_in}
use Rattle.pybuf_state.specs.Snaps.{snap_of_exporter, snap_of_subject}
use Rattle.pybuf_state.specs.Sound.{IsSoundExporter}
use Rattle.pybuf_state.specs.Fits.{LoansFit}
use Rattle.pybuf_verbs_writes.specs.Laws.{AreOutside}
use Rattle.pybuf_exporter.specs.Step.{estep}

-- ---- items

-- item j of a view over bytes
abbrev pub item_in : List ℕ → Layout → ℕ → List ℕ
item_in bytes layout j = bytes_at bytes layout.itemsize (slice_index layout.starts j)

-- Item j of a subject of an exporter, as it is now. Of the exporter itself it is byte j, and of a view it is
-- the bytes at the place of item j. An iterator has no items.
abbrev pub item_of_subject : Exporter → Subject → ℕ → List ℕ
item_of_subject e subject.Own j = bytes_at e.bytes 1 j
item_of_subject e (subject.View k) j = item_in e.bytes (layout_of e k) j
item_of_subject e (subject.Iter k) j = []

-- Item j of what another exporter lends. The items lie there one after the other.
abbrev pub item_of_snap : Snap → ℕ → List ℕ
item_of_snap snap j = bytes_at snap.content snap.itemsize (j * snap.itemsize)

-- ---- sources, as they are before a command

-- item j of what a handle is lent as
abbrev pub item_of_loan : Exporter → Option Loan → ℕ → List ℕ
item_of_loan e (Some loan.Own) j = item_of_subject e subject.Own j
item_of_loan e (Some (loan.View k)) j = item_of_subject e (subject.View k) j
item_of_loan e (Some (loan.Iter k)) j = item_of_subject e (subject.Iter k) j
item_of_loan e (Some (loan.Other snap)) j = item_of_snap snap j
item_of_loan e _ j = []

-- item j of bytes that are given, or of what a handle is lent as
abbrev pub item_before : Exporter → List (ℕ × Loan) → Value → ℕ → List ℕ
item_before e loans (value.One (scalar.Bytes bytes)) j = bytes_at bytes 1 j
item_before e loans (value.One (scalar.Handle h)) j = item_of_loan e (loan_of loans h) j
item_before e loans _ j = []

-- bytes that are given, or what a handle is lent as, with the bytes that it has
abbrev pub source_before : Exporter → List (ℕ × Loan) → Value → Option Snap
source_before e loans (value.One (scalar.Bytes bytes)) = Some (snap_of_exporter (new_exporter kind.Bytes bytes))
source_before e loans (value.One (scalar.Handle h)) = snap_in e (loan_of loans h)
source_before e loans _ = None

-- ---- the law

-- The items of a view that a slice picks were set to those of a source. The source was there and was no
-- released view, and it has as many items of the same size. If no two items of the target share a byte, item j
-- of the target is afterwards what item j of the source was before, whatever the strides of both are, and even
-- if both lie in the same bytes. Every byte that no item of the target has stays, and so do the length, the
-- kind, the views and the iterators.
pub record IsAssignedByValue (e new : Exporter) (k : ℕ) (slice : PySlice) (v : Value) (loans : List (ℕ × Loan)) : Type 0 where
  pub layout : Layout
  pub live : live_layout e k ≡ Ok layout
  pub parts : SliceParts
  pub given : saturated_parts_of slice ≡ Ok parts
  pub moves : parts.step ≢ pos 0
  pub source : Snap
  pub named : source_before e loans v ≡ Some source
  pub unreleased : source.released ≡ false
  pub same_size : source.itemsize ≡ layout.itemsize
  pub as_many : length source.content ≡ layout.itemsize * length (slice_of layout parts).starts
  pub inside : (j : ℕ) → j < length (slice_of layout parts).starts → j * source.itemsize < length source.content
  pub items : HasItemsApart (slice_of layout parts) → (j : ℕ) → j < length (slice_of layout parts).starts → item_in new.bytes (slice_of layout parts) j ≡ item_before e loans v j
  pub others : (place count : ℕ) → AreOutside layout.itemsize (slice_of layout parts).starts place count → bytes_at new.bytes count place ≡ bytes_at e.bytes count place
  pub as_long : length new.bytes ≡ length e.bytes
  pub kind : new.kind ≡ e.kind
  pub views : new.views ≡ e.views
  pub iterators : new.iterators ≡ e.iterators

-- This holds whenever the command isn't refused.
abbrev pub StepsAssignByValue : Type 0
StepsAssignByValue =
    (e new : Exporter) (k : ℕ) (slice : PySlice) (v : Value) (loans : List (ℕ × Loan)) → IsSoundExporter e → LoansFit loans
    → estep e (subject.View k) (verb.Set (value.Slice slice) v) loans ≡ (new, reply.Ok) → IsAssignedByValue e new k slice v loans

-- What a sound exporter lends has the items of its subject, unless that is a released view.
abbrev pub SnapsHoldTheItems : Type 0
SnapsHoldTheItems =
    (e : Exporter) (s : Subject) (snap : Snap) (j : ℕ) → IsSoundExporter e → snap_of_subject e s ≡ Some snap → snap.released ≡ false → j * snap.itemsize < length snap.content → item_of_snap snap j ≡ item_of_subject e s j

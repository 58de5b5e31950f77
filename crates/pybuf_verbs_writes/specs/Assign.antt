-- `set` of a view by a slice: the items that the slice picks get the bytes of as many other items. These are
-- read as they were before the command.
use Rattle.std.specs.Prelude.{ℕ, ◌==◌, Bool, ◌&&◌, not, List, [], ◌∷◌, length, slice_index, bytes_eq, Option, Some, None, Result, Ok, Err}
use Rattle.std.specs.Option.{ok_or}
use Rattle.pybuf_value.specs.declared.faults.Fault.{Fault}
use Rattle.pybuf_value.specs.declared.faults.Fault.TheVariants as fault
use Rattle.pybuf_value.specs.declared.values.Value.{Value}
use Rattle.pybuf_value.specs.declared.values.Value.TheVariants as value
use Rattle.pybuf_value.specs.declared.values.Scalar.TheVariants as scalar
use Rattle.pybuf_value.specs.declared.values.PySlice.{PySlice}
use Rattle.pybuf_value.specs.declared.snaps.Snap.{Snap}
use Rattle.pybuf_value.specs.Refusing.{◌>>=◌, unless}
use Rattle.pybuf_value.specs.Snaps.{is_iterator}
use Rattle.pybuf_index.specs.Parts.{saturated_parts_of}
use Rattle.pybuf_desc.specs.Layouts.{Layout}
use Rattle.pybuf_desc.specs.Slices.{slice_of}
use Rattle.pybuf_command.specs.declared.kinds.ExporterKind.{ExporterKind}
use Rattle.pybuf_command.specs.declared.kinds.ExporterKind.TheVariants as kind
use Rattle.pybuf_command.specs.declared.kinds.Subject.{Subject}
use Rattle.pybuf_command.specs.declared.kinds.Subject.TheVariants as subject
use Rattle.pybuf_command.specs.declared.loans.Loan.{Loan}
use Rattle.pybuf_command.specs.declared.commands.LocalReply.{LocalReply}
use Rattle.pybuf_command.specs.declared.commands.LocalReply.TheVariants as reply
use Rattle.pybuf_memoryview.specs.Fits.{is_row_of}
use Rattle.pybuf_memoryview.specs.Items.{has_dimensions, is_none}
use Rattle.pybuf_state.specs.Exporter.{Exporter, new_exporter, live_layout}
use Rattle.pybuf_state.specs.Loans.{Lent, lent_as, snap_in}
use Rattle.pybuf_state.specs.Snaps.{snap_of_exporter, snap_of_subject}
use Rattle.pybuf_verbs_writes.specs.Laid.{laid}

-- The layout of the items that are written. A slice picks them, and the view has one dimension.
abbrev pub assign_target : Exporter → ℕ → PySlice → Value → Result Layout Fault
assign_target e k slice value = do
  layout ← live_layout e k
  _ ← unless layout.readonly fault.Kind
  _ ← unless (is_none value) fault.Kind
  _ ← has_dimensions layout
  _ ← unless (not (length layout.shape == 1)) fault.NotImplemented
  parts ← saturated_parts_of slice
  Ok (slice_of layout parts)

-- what was lent, if it is an exporter or a view, since an iterator has no items to copy
abbrev pub no_iterator : Snap → Result Snap Fault
no_iterator snap = do
  _ ← unless (is_iterator snap.kind) fault.Kind
  Ok snap

-- what a handle names, be it the exporter itself or another, if it is there
abbrev pub source_of : Option Snap → Result Snap Fault
source_of (Some snap) = no_iterator snap
source_of None = Err fault.Kind

-- what was lent for a handle
abbrev pub lent_source : List Lent → Result Snap Fault
lent_source [] = Err fault.Kind
lent_source (l ∷ lents) = no_iterator l.snap

-- What the items are copied from, as it was before the command: bytes, which count as an exporter of these
-- bytes, or what a handle names.
abbrev pub source_in : Value → List Lent → Result Snap Fault
source_in (value.One (scalar.Bytes bytes)) lents = Ok (snap_of_exporter (new_exporter kind.Bytes bytes))
source_in (value.One (scalar.Handle h)) lents = lent_source lents
source_in _ lents = Err fault.Kind

-- The source has items of the target's format, in the same spelling, and of its item size. It has one
-- dimension, with as many entries as the target. (`bytes_eq` compares lists of numbers.)
abbrev pub has_form_of : Layout → List ℕ → ℕ → List ℕ → Bool
has_form_of target format itemsize shape =
    bytes_eq format target.format && (itemsize == target.itemsize && is_row_of (slice_index target.shape 0) shape)

-- the exporter after the bytes of the source were copied over those of the target's items
abbrev pub assigned : Exporter → Layout → Snap → Result (Exporter × LocalReply) Fault
assigned e target source = do
  _ ← unless source.released fault.Value
  _ ← unless (not (has_form_of target source.format source.itemsize source.shape)) fault.Value
  Ok (record e { bytes = laid e.bytes target.itemsize target.starts source.content }, reply.Ok)

-- the same for the source that a handle names, if it is there
abbrev pub assigned_from : Exporter → Layout → Option Snap → Result (Exporter × LocalReply) Fault
assigned_from e target lent = do
  source ← source_of lent
  assigned e target source

-- the same for a source that a value gives
abbrev pub assigned_of_value : Exporter → Layout → Value → List Lent → Result (Exporter × LocalReply) Fault
assigned_of_value e target value lents = do
  source ← source_in value lents
  assigned e target source

abbrev pub assign_of_view : Exporter → ℕ → PySlice → Value → List Lent → Result (Exporter × LocalReply) Fault
assign_of_view e k slice value lents = do
  target ← assign_target e k slice value
  assigned_of_value e target value lents

-- the same for what is lent for a handle by itself, if it is there
abbrev pub assign_of_lent : Exporter → ℕ → PySlice → Option Snap → Result (Exporter × LocalReply) Fault
assign_of_lent e k slice lent = do
  snap ← ok_or lent fault.UnknownName
  assign_of_view e k slice (value.One (scalar.Handle 0)) (lent_as 0 None (Some snap))

-- ---- by plain arguments

-- bytes over the items that the slice picks
abbrev pub bytes_assigned : Exporter → ℕ → PySlice → List ℕ → Result (Exporter × LocalReply) Fault
bytes_assigned e k slice bytes = assign_of_view e k slice (value.One (scalar.Bytes bytes)) []

-- the items of a view of an exporter over those that the slice picks
abbrev pub assigned_across : Exporter → ℕ → PySlice → Exporter → ℕ → Result (Exporter × LocalReply) Fault
assigned_across e k slice lender source = assign_of_lent e k slice (snap_of_subject lender (subject.View source))

-- bytes over the items of the target, as those of an exporter that has no other
abbrev pub assigned_bytes : Exporter → Layout → ExporterKind → List ℕ → Result (Exporter × LocalReply) Fault
assigned_bytes e target made bytes = assigned e target (snap_of_exporter (new_exporter made bytes))

-- the items of a subject of an exporter over those of the target
abbrev pub assigned_of : Exporter → Layout → Exporter → Subject → Result (Exporter × LocalReply) Fault
assigned_of e target lender source = assigned_from e target (snap_of_subject lender source)

-- those of what a handle is lent as
abbrev pub assigned_as : Exporter → Layout → Option Loan → Result (Exporter × LocalReply) Fault
assigned_as e target l = assigned_from e target (snap_in e l)

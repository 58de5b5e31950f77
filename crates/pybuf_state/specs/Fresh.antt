-- Exporters that are made from another one, with a copy of its bytes.
use Rattle.std.specs.Prelude.{◌≡◌, ℕ, Bool, true, List, length, Option, Some, None, Ok, slice_get}
use Rattle.pybuf_value.specs.declared.snaps.Snap.{Snap}
use Rattle.pybuf_value.specs.declared.snaps.SnapKind.{SnapKind}
use Rattle.pybuf_value.specs.declared.snaps.SnapKind.TheVariants as kind
use Rattle.pybuf_desc.specs.Layouts.{Layout}
use Rattle.pybuf_desc.specs.Items.{content_of_layout}
use Rattle.pybuf_desc.specs.Contiguous.{is_contiguous_layout}
use Rattle.pybuf_desc.specs.Strides.{HasRowMajorStrides}
use Rattle.pybuf_desc.specs.Packed.{row_major_layout}
use Rattle.pybuf_command.specs.declared.kinds.ExporterKind.TheVariants as exporter_kind
use Rattle.pybuf_command.specs.declared.kinds.Subject.{Subject}
use Rattle.pybuf_command.specs.declared.kinds.Subject.TheVariants as subject
use Rattle.pybuf_command.specs.Kinds.{holds_readonly}
use Rattle.pybuf_memoryview.specs.Snaps.{snap_of_copy}
use Rattle.pybuf_state.specs.Exporter.{Exporter, View, new_exporter, live_layout, with_view}
use Rattle.pybuf_state.specs.Snaps.{snap_of_exporter}

-- whether a view may only be read; this is true if the view was never made
abbrev pub is_readonly_view : Option View → Bool
is_readonly_view (Some v) = v.layout.readonly
is_readonly_view None = true

-- whether a subject of an exporter may only be read
abbrev pub is_readonly_subject : Exporter → Subject → Bool
is_readonly_subject e subject.Own = holds_readonly e.kind
is_readonly_subject e (subject.View k) = is_readonly_view (slice_get e.views k)
is_readonly_subject e (subject.Iter k) = true

-- The vector that is made from the copy of a view. It has the content of the copy, and one view of all of it. The items
-- of this view have the same format and shape, and lie one after the other.
abbrev pub vector_of : Bool → Snap → Exporter
vector_of readonly snap =
    (with_view (new_exporter (exporter_kind.Vector readonly) snap.content) (row_major_layout snap.format snap.itemsize snap.shape readonly)).0

-- What is made from a copy. From a bytearray's copy it is another bytearray without views, and from a view's copy it is
-- that vector.
abbrev pub made_by_kind : SnapKind → Bool → Snap → Exporter
made_by_kind kind.ByteArray readonly snap = new_exporter exporter_kind.ByteArray snap.content
made_by_kind _ readonly snap = vector_of readonly snap

abbrev pub made_of : Bool → Snap → Exporter
made_of readonly snap = made_by_kind snap.kind readonly snap

-- the snap is a copy of a bytearray, or of an unreleased view
abbrev pub IsCopyOf : Exporter → Subject → Snap → Type 0
IsCopyOf e subject.Own snap = (e.kind ≡ exporter_kind.ByteArray) × (snap ≡ snap_of_exporter e)
IsCopyOf e (subject.View k) snap = (layout : Layout) × (live_layout e k ≡ Ok layout) × (snap ≡ snap_of_copy e.bytes layout)
IsCopyOf e _ snap = ⊥

-- The copy has the bytes of the view, with items of the same format in the same shape. In the copy they lie one after
-- the other.
pub record IsPackedCopy (bytes : List ℕ) (view : Layout) (copied : List ℕ) (copy : Layout) : Type 0 where
  pub content : content_of_layout copied copy ≡ content_of_layout bytes view
  pub whole : copied ≡ content_of_layout bytes view
  pub format : copy.format ≡ view.format
  pub itemsize : copy.itemsize ≡ view.itemsize
  pub shape : copy.shape ≡ view.shape
  pub readonly : copy.readonly ≡ view.readonly
  pub strides : HasRowMajorStrides copy
  pub contiguous : is_contiguous_layout copy ≡ true

-- Either a bytearray has the bytes of another, and no view. Or an exporter has one view, and this is a packed copy of
-- an unreleased view of another exporter.
abbrev pub HoldsCopy : Exporter → Subject → Exporter → Type 0
HoldsCopy e subject.Own made = made ≡ new_exporter exporter_kind.ByteArray e.bytes
HoldsCopy e (subject.View k) made =
    (layout copy : Layout) × (live_layout e k ≡ Ok layout) × (live_layout made 0 ≡ Ok copy) × (length made.views ≡ 1) × IsPackedCopy e.bytes layout made.bytes copy
HoldsCopy e _ made = ⊥

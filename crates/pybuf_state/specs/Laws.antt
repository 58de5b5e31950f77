-- The laws of what a command keeps of an exporter, one for each way in which it changes the exporter.
use Rattle.std.specs.Prelude.{◌≡◌, ℕ, ◌+◌, ◌≤◌, List, [], ◌∷◌, ◌++◌, length, set, Bool, true, false, Ok, Some, slice_get}
use Rattle.pybuf_value.specs.declared.snaps.Snap.{Snap}
use Rattle.pybuf_desc.specs.Layouts.{Layout, LiesInside, bytes_layout_from}
use Rattle.pybuf_desc.specs.Apart.{HasItemsApart}
use Rattle.pybuf_command.specs.declared.kinds.ExporterKind.{ExporterKind}
use Rattle.pybuf_command.specs.declared.kinds.Subject.{Subject}
use Rattle.pybuf_command.specs.Kinds.{holds_readonly}
use Rattle.pybuf_state.specs.Exporter.{Exporter, View, Iterator, new_exporter, whole_layout, view_at, live_layout, with_view, released_at}
use Rattle.pybuf_state.specs.Sound.{IsFormed, IsSoundExporter}
use Rattle.pybuf_state.specs.Spaced.{IsSpaced}
use Rattle.pybuf_state.specs.Keeps.{Keeps, is_vector, IsSameOrMoved, IteratorsStay}
use Rattle.pybuf_state.specs.Resizing.{has_exports}
use Rattle.pybuf_state.specs.Fresh.{IsCopyOf, made_of, is_readonly_subject, HoldsCopy}

-- what the layout of a new view must satisfy
pub record IsSoundLayout (e : Exporter) (layout : Layout) : Type 0 where
  pub formed : IsFormed layout
  pub inside : LiesInside (length e.bytes) layout
  pub readonly : holds_readonly e.kind ≡ true → layout.readonly ≡ true

abbrev pub WholeLayoutsAreSound : Type 0
WholeLayoutsAreSound = (e : Exporter) → IsSoundLayout e (whole_layout e)

-- the layout of the bytes from a place on is sound, if they lie inside
abbrev pub PartLayoutsAreSound : Type 0
PartLayoutsAreSound = (e : Exporter) (start count : ℕ) → start + count ≤ length e.bytes → IsSoundLayout e (bytes_layout_from start count (holds_readonly e.kind))

abbrev pub LiveLayoutsAreSound : Type 0
LiveLayoutsAreSound = (e : Exporter) (k : ℕ) (layout : Layout) → IsSoundExporter e → live_layout e k ≡ Ok layout → IsSoundLayout e layout

-- an exporter that is only read is kept
abbrev pub ReadingKeeps : Type 0
ReadingKeeps = (e : Exporter) → IsSoundExporter e → Keeps e e

-- An exporter is kept if it gets one more view. If no two items of any view share a byte, this must also hold of the
-- new view.
abbrev pub NewViewsKeep : Type 0
NewViewsKeep =
    (e : Exporter) (layout : Layout) → IsSoundExporter e → IsSoundLayout e layout → (IsSpaced e → HasItemsApart layout) → Keeps e (with_view e layout).0

-- an exporter with one more view is sound, whether the items of the view share bytes or not
abbrev pub NewViewsAreSound : Type 0
NewViewsAreSound = (e : Exporter) (layout : Layout) → IsSoundExporter e → IsSoundLayout e layout → IsSoundExporter (with_view e layout).0

-- an exporter is kept if its bytes may be written and as many others take their place
abbrev pub WritingKeeps : Type 0
WritingKeeps = (e : Exporter) (bytes : List ℕ) → IsSoundExporter e → holds_readonly e.kind ≡ false → length bytes ≡ length e.bytes → Keeps e (record e { bytes = bytes })

-- an exporter is kept if one of its views is released
abbrev pub ReleasingKeeps : Type 0
ReleasingKeeps = (e : Exporter) (k : ℕ) (v : View) → IsSoundExporter e → view_at e k ≡ Ok v → Keeps e (released_at e k v)

-- an exporter is kept if its bytes may be written, no view of it is unreleased, and any number of others take their
-- place
abbrev pub ResizingKeeps : Type 0
ResizingKeeps = (e : Exporter) (bytes : List ℕ) → IsSoundExporter e → has_exports e ≡ false → holds_readonly e.kind ≡ false → Keeps e (record e { bytes = bytes })

-- an exporter is kept if it is a vector without an unreleased view, and its bytes are taken out
abbrev pub EmptyingKeeps : Type 0
EmptyingKeeps = (e : Exporter) → IsSoundExporter e → has_exports e ≡ false → is_vector e.kind ≡ true → Keeps e (record e { bytes = [] })

-- ---- iterators

-- the iterators stay if one more is made
abbrev pub NewIteratorsStay : Type 0
NewIteratorsStay = (its : List Iterator) (it : Iterator) → IteratorsStay its (its ++ it ∷ [])

-- the iterators stay if one of them moves; if that one is exhausted, it must not change
abbrev pub MovedIteratorsStay : Type 0
MovedIteratorsStay = (its : List Iterator) (k : ℕ) (it moved : Iterator) → slice_get its k ≡ Some it → IsSameOrMoved it moved → IteratorsStay its (set its k moved)

-- ---- copies

-- What is made from a copy is sound, and it holds the bytes that were copied: those of a bytearray, or those of a view
-- in its shape.
abbrev pub CopiesAreFaithful : Type 0
CopiesAreFaithful =
    (e : Exporter) (s : Subject) (snap : Snap) → IsSoundExporter e → IsCopyOf e s snap
    → (IsSoundExporter (made_of (is_readonly_subject e s) snap)) × (HoldsCopy e s (made_of (is_readonly_subject e s) snap))

-- ---- exporters in whose views no two items share a byte

abbrev pub NewExportersAreSpaced : Type 0
NewExportersAreSpaced = (k : ExporterKind) (bytes : List ℕ) → IsSpaced (new_exporter k bytes)

-- an exporter stays so if it gets one more view in which no two items share a byte
abbrev pub NewViewsStayApart : Type 0
NewViewsStayApart = (e : Exporter) (layout : Layout) → IsSpaced e → HasItemsApart layout → IsSpaced (with_view e layout).0

-- an exporter stays so if one of its views is released
abbrev pub ReleasedViewsStayApart : Type 0
ReleasedViewsStayApart = (e : Exporter) (k : ℕ) (v : View) → IsSpaced e → view_at e k ≡ Ok v → IsSpaced (released_at e k v)

-- an exporter stays so if its views stay, whatever its bytes and its iterators are
abbrev pub SameViewsStayApart : Type 0
SameViewsStayApart = (e new : Exporter) → new.views ≡ e.views → IsSpaced e → IsSpaced new

abbrev pub LiveLayoutsLieApart : Type 0
LiveLayoutsLieApart = (e : Exporter) (k : ℕ) (layout : Layout) → IsSpaced e → live_layout e k ≡ Ok layout → HasItemsApart layout

-- what is made from a copy is so, whatever was copied
abbrev pub CopiesAreSpaced : Type 0
CopiesAreSpaced = (readonly : Bool) (snap : Snap) → IsSpaced (made_of readonly snap)

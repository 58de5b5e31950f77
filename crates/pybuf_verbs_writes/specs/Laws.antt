-- Each effect keeps a sound exporter and replies a refusal only if it is refused. What is written can be read.
use Rattle.std.specs.Prelude.{◌≡◌, ◌≢◌, ◌⊎◌, ℕ, ◌+◌, ◌*◌, ◌<◌, ◌≤◌, pos, List, [], ◌∷◌, All, length, slice_index, take, drop, true, false, Ok}
use Rattle.pybuf_value.specs.declared.values.Item.{Item}
use Rattle.pybuf_value.specs.declared.values.Value.{Value}
use Rattle.pybuf_value.specs.declared.values.PySlice.{PySlice}
use Rattle.pybuf_struct.specs.Formats.{Format, format_of, fields}
use Rattle.pybuf_struct.specs.Values.{item_of}
use Rattle.pybuf_struct.specs.Laws.{normal_values}
use Rattle.pybuf_value.specs.declared.snaps.Snap.{Snap}
use Rattle.pybuf_index.specs.Parts.{SliceParts, saturated_parts_of}
use Rattle.pybuf_desc.specs.Layouts.{Layout, LiesInside}
use Rattle.pybuf_desc.specs.Slices.{slice_of}
use Rattle.pybuf_desc.specs.Apart.{AreApart}
use Rattle.pybuf_memoryview.specs.Fits.{fits_snap}
use Rattle.pybuf_memoryview.specs.Snaps.{snap_of_layout}
use Rattle.pybuf_desc.specs.Items.{bytes_at, content_of_layout}
use Rattle.pybuf_command.specs.declared.commands.LocalReply.{LocalReply}
use Rattle.pybuf_memoryview.specs.Items.{item_by, scalar_in}
use Rattle.pybuf_state.specs.Exporter.{Exporter, live_layout}
use Rattle.pybuf_state.specs.Loans.{Lent, snaps_of}
use Rattle.pybuf_state.specs.Sound.{IsSoundExporter}
use Rattle.pybuf_state.specs.Keeps.{IsSafe}
use Rattle.pybuf_verbs_writes.specs.Set.{set_of_own, item_set, set_of_view}
use Rattle.pybuf_verbs_writes.specs.Assign.{source_in, assign_of_view}

abbrev pub SetIsSafe : Type 0
SetIsSafe =
    ((e : Exporter) (key value : Value) → IsSafe e (set_of_own e key value))
    × ((e : Exporter) (k : ℕ) (key value : Value) (lents : List Lent) → IsSafe e (set_of_view e k key value lents))

abbrev pub AssignIsSafe : Type 0
AssignIsSafe = (e : Exporter) (k : ℕ) (slice : PySlice) (value : Value) (lents : List Lent) → IsSafe e (assign_of_view e k slice value lents)

-- An item was written at a place. The views stay, and so does every byte before and after the item. If a view
-- of this format has an item at the place, that item is read as the value that was wanted.
pub record IsWritten (e new : Exporter) (written : Layout) (place : ℕ) (wanted : Item) : Type 0 where
  pub views : new.views ≡ e.views
  pub before : take place new.bytes ≡ take place e.bytes
  pub after : drop (place + written.itemsize) new.bytes ≡ drop (place + written.itemsize) e.bytes
  pub read_back : (other : Layout) → other.format ≡ written.format → other.itemsize ≡ written.itemsize → item_by other.format (bytes_at new.bytes other.itemsize place) ≡ wanted

-- What is written through one view can be read through every view of the same bytes, and no other byte changes.
abbrev pub WritesAreSeen : Type 0
WritesAreSeen =
    (e new : Exporter) (k : ℕ) (layout : Layout) (item : ℕ) (value : Value) (lents : List Lent) (r : LocalReply) → IsSoundExporter e
    → live_layout e k ≡ Ok layout → item < length layout.starts → item_set e layout item value lents ≡ Ok (new, r)
    → (format : Format) × (format_of layout.format ≡ Ok format)
    × IsWritten e new layout (slice_index layout.starts item) (item_of (normal_values (snaps_of lents) (fields format) (scalar_in value ∷ [])))

-- ---- assignments by a slice

-- No item has any of the `count` bytes from a place on.
abbrev pub AreOutside : ℕ → List ℕ → ℕ → ℕ → Type 0
AreOutside size starts place count =
    (i : ℕ) → i < length starts → (slice_index starts i + size ≤ place) ⊎ (place + count ≤ slice_index starts i)

-- Items of a target were copied from as many items of the same size. The views and the length stay, and so does
-- every byte that none of the target's items has. If no two of these share a byte, item k of them is afterwards
-- item k of the source. If the source was a view of bytes, this is the view's item k as it was in those bytes,
-- whatever the strides of both are, and even if the two overlap or are one.
pub record IsAssigned (e new : Exporter) (target : Layout) (source : Snap) : Type 0 where
  pub views : new.views ≡ e.views
  pub as_long : length new.bytes ≡ length e.bytes
  pub same_size : source.itemsize ≡ target.itemsize
  pub as_many : length source.content ≡ target.itemsize * length target.starts
  pub others : (place count : ℕ) → AreOutside target.itemsize target.starts place count → bytes_at new.bytes count place ≡ bytes_at e.bytes count place
  pub items : AreApart target.itemsize target.starts → (k : ℕ) → k < length target.starts
      → bytes_at new.bytes target.itemsize (slice_index target.starts k) ≡ bytes_at source.content target.itemsize (k * target.itemsize)
  pub items_of_view : (bytes : List ℕ) (layout : Layout) → source ≡ snap_of_layout bytes layout false → LiesInside (length bytes) layout → AreApart target.itemsize target.starts
      → (k : ℕ) → k < length target.starts → bytes_at new.bytes target.itemsize (slice_index target.starts k) ≡ bytes_at bytes layout.itemsize (slice_index layout.starts k)

-- what an assignment by a slice did: which items it wrote, and from which source, as this was before
pub record IsSliceAssignment (e new : Exporter) (k : ℕ) (slice : PySlice) (value : Value) (lents : List Lent) : Type 0 where
  pub layout : Layout
  pub live : live_layout e k ≡ Ok layout
  pub parts : SliceParts
  pub given : saturated_parts_of slice ≡ Ok parts
  pub moves : parts.step ≢ pos 0
  pub source : Snap
  pub named : source_in value lents ≡ Ok source
  pub unreleased : source.released ≡ false
  pub done : IsAssigned e new (slice_of layout parts) source

-- If an assignment isn't refused, and what is lent to it fits, then it assigns by value.
abbrev pub AssignmentsAreByValue : Type 0
AssignmentsAreByValue =
    (e new : Exporter) (k : ℕ) (slice : PySlice) (value : Value) (lents : List Lent) (r : LocalReply) → IsSoundExporter e → All (λ (l : Lent). fits_snap l.snap ≡ true) lents
    → assign_of_view e k slice value lents ≡ Ok (new, r) → IsSliceAssignment e new k slice value lents

-- The content of a view has its items, one after the other.
abbrev pub ContentsHoldTheItems : Type 0
ContentsHoldTheItems =
    (bytes : List ℕ) (layout : Layout) (k : ℕ) → LiesInside (length bytes) layout → k < length layout.starts
    → bytes_at (content_of_layout bytes layout) layout.itemsize (k * layout.itemsize) ≡ bytes_at bytes layout.itemsize (slice_index layout.starts k)

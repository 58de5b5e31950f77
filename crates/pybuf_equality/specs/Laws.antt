-- The laws of the equality of views.
use Rattle.std.specs.Prelude.{◌≡◌, ◌⊎◌, ℕ, ◌<◌, true, false, List, length, codes}
use Rattle.std.specs.List.{All}
use Rattle.pybuf_value.specs.declared.snaps.Snap.{Snap}
use Rattle.pybuf_value.specs.declared.snaps.SnapKind.TheVariants as kind
use Rattle.pybuf_value.specs.Laws.{IsEquality}
use Rattle.pybuf_desc.specs.Layouts.{Layout, LiesInside, HasItemsOfItsShape, product}
use Rattle.pybuf_memoryview.specs.Fits.{fits_snap}
use Rattle.pybuf_memoryview.specs.Sized.{byte_count}
use Rattle.pybuf_memoryview.specs.Lists.{items_of_layout}
use Rattle.pybuf_memoryview.specs.Snaps.{snap_of_layout}
use Rattle.pybuf_equality.specs.Equality.{items_of_snap, same_view}

-- A view is equal to itself. If it is equal to another, the other is equal to it, and what the other is equal to is
-- equal to it too.
abbrev pub ViewEqualityIsEquivalence : Type 0
ViewEqualityIsEquivalence = IsEquality same_view

-- the items of a view that are compared are the items that the view is read as
abbrev pub LayoutsHaveTheirItems : Type 0
LayoutsHaveTheirItems =
    (bytes : List ℕ) (layout : Layout) → LiesInside (length bytes) layout → HasItemsOfItsShape layout → items_of_snap (snap_of_layout bytes layout false) ≡ items_of_layout bytes layout

-- ---- views of single bytes

-- the formats of one byte with which an item is read so that nothing is lost
abbrev pub IsByteFormat : List ℕ → Type 0
IsByteFormat format = (format ≡ codes "b") ⊎ ((format ≡ codes "B") ⊎ (format ≡ codes "c"))

-- items of one byte in such a format, as many as the shape has places
pub record HasByteItems (s : Snap) : Type 0 where
  pub format : IsByteFormat s.format
  pub size : s.itemsize ≡ 1
  pub filled : length s.content ≡ product s.shape
  pub bytes : All (λ b. b < 256) s.content

-- if two such views are equal, they hold the same bytes, whatever their formats are
abbrev pub EqualByteViewsHoldTheSameBytes : Type 0
EqualByteViewsHoldTheSameBytes = (s t : Snap) → HasByteItems s → HasByteItems t → same_view s t ≡ true → s.content ≡ t.content

-- ---- what is lent

-- the items have a size of at least one byte, and all their bytes are there
pub record HasAllItems (s : Snap) : Type 0 where
  pub some_size : 0 < s.itemsize
  pub filled : length s.content ≡ byte_count s.itemsize s.shape

-- a snap that fits has all its items, unless it is of an iterator or of a released view
abbrev pub FittingSnapsHaveAllItems : Type 0
FittingSnapsHaveAllItems = (s : Snap) → fits_snap s ≡ true → s.released ≡ false → (s.kind ≡ kind.Iterator → ⊥) → HasAllItems s

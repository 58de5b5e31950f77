-- The laws of views, and of the descriptors that stand for them.
use Rattle.std.specs.Prelude.{◌≡◌, ◌≢◌, ◌↔◌, ℕ, ◌+◌, ◌-◌, ◌*◌, ◌%◌, ◌^◌, ◌<◌, ℤ, pos, negsuc, ◌+ℤ◌, ◌≤ℤ◌, ◌<ℤ◌, ◌≤◌, nat_abs, Bool, List, [], ◌∷◌, length, drop, slice_get, slice_index, true, None, Some}
use Rattle.std.specs.List.{All, flat_map}
use Rattle.std.specs.declared.ops.Range.{Range}
use Rattle.pybuf_index.specs.Parts.{SliceParts}
use Rattle.pybuf_desc.specs.Layouts.{Layout, HasItemsOfItsShape, LiesInside, product, bytes_layout, bytes_layout_from}
use Rattle.pybuf_desc.specs.Apart.{HasItemsApart}
use Rattle.pybuf_desc.specs.Items.{bytes_of_items, content_of_layout}
use Rattle.pybuf_desc.specs.Contiguous.{starts_from, is_contiguous_layout}
use Rattle.pybuf_desc.specs.Strides.{AreRowMajor, HasRowMajorStrides}
use Rattle.pybuf_desc.specs.ColumnOrder.{column_content, column_starts, columns_of, is_f_contiguous_layout}
use Rattle.pybuf_desc.specs.ColumnMajor.{HasColumnMajorStrides}
use Rattle.pybuf_desc.specs.Casts.{cast_count, cast_of}
use Rattle.pybuf_desc.specs.ShapedCasts.{cast_to}
use Rattle.pybuf_desc.specs.ColumnCasts.{column_cast_to}
use Rattle.pybuf_desc.specs.Packed.{row_major_of}
use Rattle.pybuf_desc.specs.Slices.{slice_of}
use Rattle.pybuf_desc.specs.Descriptor.{Descriptor}
use Rattle.pybuf_desc.specs.Places.{Stands, layout_at}
use Rattle.pybuf_desc.specs.Valid.{IsValid, IsPlaced}
use Rattle.pybuf_desc.specs.Positions.{AreIndices, offset_of, number_of_item}
use Rattle.pybuf_desc.specs.Tails.{tail_of, tail_of_strides}
use Rattle.pybuf_desc.specs.Segments.{ranges_of, bytes_of, bytes_in}
use Rattle.pybuf_desc.specs.ColumnSegments.{column_ranges_of}
use Rattle.pybuf_desc.specs.SegmentLines.{ranges_of_line, IsLine}
use Rattle.pybuf_desc.specs.declared.line.SegmentLine.{SegmentLine}
use Rattle.pybuf_strided.specs.Apart.{place_of, AreInside, pieces_at}

-- ---- casts

-- A cast makes its items of the bytes of a view. It has as many items as there are bytes for. Its item k lies k of its
-- item sizes after the first item of the view. The bytes of its items, in order, are those of the view. It is read-only
-- exactly if the view is.
pub record SharesBytes (bytes : List ℕ) (view cast : Layout) : Type 0 where
  pub count : length cast.starts * cast.itemsize ≡ length view.starts * view.itemsize
  pub starts : (k : ℕ) → k < length cast.starts → slice_get cast.starts k ≡ Some (slice_index view.starts 0 + k * cast.itemsize)
  pub content : content_of_layout bytes cast ≡ content_of_layout bytes view
  pub readonly : cast.readonly ≡ view.readonly

-- a cast to one dimension shares its bytes, wherever the items of the view lie in the bytes
abbrev pub CastsShareTheirBytes : Type 0
CastsShareTheirBytes =
    (bytes : List ℕ) (view : Layout) (format : List ℕ) (size : ℕ) → is_contiguous_layout view ≡ true → 0 < size → length view.starts * view.itemsize % size ≡ 0
    → SharesBytes bytes view (cast_of view format size)

abbrev pub CastsStayInside : Type 0
CastsStayInside =
    (view : Layout) (format : List ℕ) (size room : ℕ) → is_contiguous_layout view ≡ true → LiesInside room view → LiesInside room (cast_of view format size)

abbrev pub CastsHaveTheirShape : Type 0
CastsHaveTheirShape = (view : Layout) (format : List ℕ) (size : ℕ) → HasItemsOfItsShape (cast_of view format size)

abbrev pub CastsAreContiguous : Type 0
CastsAreContiguous = (view : Layout) (format : List ℕ) (size : ℕ) → is_contiguous_layout (cast_of view format size) ≡ true

-- a cast to one dimension is the cast to a shape with one entry
abbrev pub FlatCastsHaveOneDimension : Type 0
FlatCastsHaveOneDimension = (view : Layout) (format : List ℕ) (size : ℕ) → cast_of view format size ≡ cast_to view format size (cast_count view size ∷ [])

-- a cast to a shape shares its bytes, if the items of the shape make up the bytes of the view
abbrev pub ShapedCastsShareTheirBytes : Type 0
ShapedCastsShareTheirBytes =
    (bytes : List ℕ) (view : Layout) (format : List ℕ) (size : ℕ) (shape : List ℕ) → is_contiguous_layout view ≡ true → 0 < size → length view.starts * view.itemsize ≡ product shape * size
    → SharesBytes bytes view (cast_to view format size shape)

abbrev pub ShapedCastsStayInside : Type 0
ShapedCastsStayInside =
    (view : Layout) (format : List ℕ) (size : ℕ) (shape : List ℕ) (room : ℕ) → is_contiguous_layout view ≡ true → 0 < size → length view.starts * view.itemsize ≡ product shape * size
    → LiesInside room view → LiesInside room (cast_to view format size shape)

abbrev pub ShapedCastsHaveTheirShape : Type 0
ShapedCastsHaveTheirShape =
    (view : Layout) (format : List ℕ) (size : ℕ) (shape : List ℕ) → 0 < size → length view.starts * view.itemsize ≡ product shape * size
    → HasItemsOfItsShape (cast_to view format size shape)

-- The items of a cast in column order, taken in that order, lie one new item size apart, from the first place of the
-- view on.
abbrev pub ColumnCastsFollowColumnOrder : Type 0
ColumnCastsFollowColumnOrder =
    (view : Layout) (format : List ℕ) (size : ℕ) (shape : List ℕ) → 0 < length view.starts
    → column_starts (column_cast_to view format size shape) ≡ starts_from view.starts size (product shape)

abbrev pub ColumnCastsAreFContiguous : Type 0
ColumnCastsAreFContiguous =
    (view : Layout) (format : List ℕ) (size : ℕ) (shape : List ℕ) → is_f_contiguous_layout (column_cast_to view format size shape) ≡ true

-- the bytes of a cast in column order, taken in that order, are those of the view
abbrev pub ColumnCastsGiveTheBytesBack : Type 0
ColumnCastsGiveTheBytesBack =
    (bytes : List ℕ) (view : Layout) (format : List ℕ) (size : ℕ) (shape : List ℕ) → is_contiguous_layout view ≡ true → 0 < size → length view.starts * view.itemsize ≡ product shape * size
    → 0 < length view.starts → column_content bytes (column_cast_to view format size shape) ≡ content_of_layout bytes view

abbrev pub ColumnCastsStayInside : Type 0
ColumnCastsStayInside =
    (view : Layout) (format : List ℕ) (size : ℕ) (shape : List ℕ) (room : ℕ) → is_contiguous_layout view ≡ true → 0 < size → length view.starts * view.itemsize ≡ product shape * size
    → LiesInside room view → LiesInside room (column_cast_to view format size shape)

abbrev pub ColumnCastsHaveTheirShape : Type 0
ColumnCastsHaveTheirShape =
    (view : Layout) (format : List ℕ) (size : ℕ) (shape : List ℕ) → 0 < length view.starts → HasItemsOfItsShape (column_cast_to view format size shape)

-- ---- copies

-- The bytes of a view, once they are copied, hold its items one after the other. The copy has the same shape, format
-- and bytes. Its items lie inside the copy, and its strides leave no gap.
pub record IsCopiedLayout (bytes : List ℕ) (view copy : Layout) : Type 0 where
  pub counted : HasItemsOfItsShape copy
  pub inside : LiesInside (length (content_of_layout bytes view)) copy
  pub content : content_of_layout (content_of_layout bytes view) copy ≡ content_of_layout bytes view
  pub contiguous : is_contiguous_layout copy ≡ true
  pub strides : HasRowMajorStrides copy

abbrev pub CopiesHaveTheirBytes : Type 0
CopiesHaveTheirBytes =
    (bytes : List ℕ) (view : Layout) → HasItemsOfItsShape view → LiesInside (length bytes) view → IsCopiedLayout bytes view (row_major_of view)

-- ---- slices of views that have a first dimension, with `n` entries

abbrev pub SlicesStayInside : Type 0
SlicesStayInside = (view : Layout) (parts : SliceParts) (room : ℕ) → LiesInside room view → LiesInside room (slice_of view parts)

abbrev pub SlicesHaveTheirShape : Type 0
SlicesHaveTheirShape =
    (view : Layout) (n : ℕ) (shape : List ℕ) (parts : SliceParts) → view.shape ≡ n ∷ shape → HasItemsOfItsShape view → parts.step ≢ pos 0
    → HasItemsOfItsShape (slice_of view parts)

-- the slice `::-1`
abbrev pub backward : SliceParts
backward = record { start = None; stop = None; step = negsuc 0 }

-- if all of a view is sliced backward, and that is sliced backward again, its items are where they were
abbrev pub SlicingBackTwiceIsNothing : Type 0
SlicingBackTwiceIsNothing =
    (view : Layout) (n : ℕ) (shape : List ℕ) → view.shape ≡ n ∷ shape → HasItemsOfItsShape view
    → (slice_of (slice_of view backward) backward).starts ≡ view.starts

-- ---- views in which no two items share a byte

-- the view of all bytes is one of these, and so is the view of the bytes from a place on
abbrev pub WholeLayoutsLieApart : Type 0
WholeLayoutsLieApart =
    ((count : ℕ) (readonly : Bool) → HasItemsApart (bytes_layout count readonly))
    × ((start count : ℕ) (readonly : Bool) → HasItemsApart (bytes_layout_from start count readonly))

-- a slice of such a view is one too, in any number of dimensions, if its step isn't 0
abbrev pub SlicesLieApart : Type 0
SlicesLieApart = (view : Layout) (parts : SliceParts) → parts.step ≢ pos 0 → HasItemsApart view → HasItemsApart (slice_of view parts)

-- a cast of any view is one, to one dimension and to a shape
abbrev pub CastsLieApart : Type 0
CastsLieApart =
    ((view : Layout) (format : List ℕ) (size : ℕ) → HasItemsApart (cast_of view format size))
    × ((view : Layout) (format : List ℕ) (size : ℕ) (shape : List ℕ) → HasItemsApart (cast_to view format size shape))

abbrev pub ColumnCastsLieApart : Type 0
ColumnCastsLieApart = (view : Layout) (format : List ℕ) (size : ℕ) (shape : List ℕ) → HasItemsApart (column_cast_to view format size shape)

abbrev pub RowMajorLayoutsLieApart : Type 0
RowMajorLayoutsLieApart = (view : Layout) → HasItemsApart (row_major_of view)

-- ---- descriptors

-- a descriptor that is placed stands for exactly one view
abbrev pub PlacedDescriptorsStand : Type 0
PlacedDescriptorsStand = (d : Descriptor) (start : ℕ) → IsPlaced d start → Stands d start (layout_at d start)

abbrev pub DescriptorsStandForOneView : Type 0
DescriptorsStandForOneView = (d : Descriptor) (start : ℕ) (view : Layout) → Stands d start view → view ≡ layout_at d start

abbrev pub DescribedViewsHaveTheirShape : Type 0
DescribedViewsHaveTheirShape = (d : Descriptor) (start : ℕ) (view : Layout) → Stands d start view → HasItemsOfItsShape view

-- a descriptor that is placed is valid for some room exactly if the items lie inside that room
abbrev pub ValidWhereItemsLieInside : Type 0
ValidWhereItemsLieInside =
    (d : Descriptor) (start room : ℕ) (view : Layout) → IsPlaced d start → Stands d start view → (LiesInside room view) ↔ (IsValid d start room)

-- if there are items, they lie one after the other exactly if the strides are row-major
abbrev pub ContiguityIsOfStrides : Type 0
ContiguityIsOfStrides =
    (d : Descriptor) (start : ℕ) (view : Layout) → IsPlaced d start → Stands d start view → 0 < length view.starts
    → (is_contiguous_layout view ≡ true) ↔ (HasRowMajorStrides view)

-- if there are items, they lie one after the other in column order exactly if the strides are column-major
abbrev pub FContiguityIsOfStrides : Type 0
FContiguityIsOfStrides =
    (d : Descriptor) (start : ℕ) (view : Layout) → IsPlaced d start → Stands d start view → 0 < length view.starts
    → (is_f_contiguous_layout view ≡ true) ↔ (HasColumnMajorStrides view)

-- if the items of a descriptor lie without a gap from one start on, they do so from any start
abbrev pub ContiguityIsTheSameAnywhere : Type 0
ContiguityIsTheSameAnywhere =
    (d : Descriptor) (start other : ℕ) (view other_view : Layout) → Stands d start view → Stands d other other_view → is_contiguous_layout view ≡ is_contiguous_layout other_view

-- an item of a view that starts at `start` lies `offset` from there, and both places fit `isize`
pub record IsPosition (view : Layout) (start item : ℕ) (offset : ℤ) : Type 0 where
  pub item_exists : item < length view.starts
  pub start_fits : start < 2 ^ 63
  pub low : pos 0 ≤ℤ (pos start +ℤ offset)
  pub high : (pos start +ℤ offset) <ℤ pos (2 ^ 63)
  pub place : slice_get view.starts item ≡ Some (nat_abs (pos start +ℤ offset))

-- the item at some indices lies as far from the start as the sum of each index times its stride
abbrev pub PositionsArePlaces : Type 0
PositionsArePlaces =
    (d : Descriptor) (start : ℕ) (view : Layout) (indices : List ℕ) → IsPlaced d start → Stands d start view → AreIndices indices d.dims
    → IsPosition view start (number_of_item indices d.dims) (offset_of indices d.dims)

-- ---- the tail, and the ranges of a walk, which may join dimensions of the tail

-- The last `t` dimensions have no gap: the stride of each of them with more than one entry is the item size times the
-- product of the entries after it. This holds of no greater number of last dimensions.
pub record IsTail (itemsize : ℕ) (shape : List ℕ) (strides : List ℤ) (t : ℕ) : Type 0 where
  pub few : t ≤ length shape
  pub packed : AreRowMajor itemsize (drop (length shape - t) shape) (drop (length shape - t) strides)
  pub greatest : (more : ℕ) → more ≤ length shape → AreRowMajor itemsize (drop (length shape - more) shape) (drop (length shape - more) strides) → more ≤ t

abbrev pub TailsAreGreatest : Type 0
TailsAreGreatest =
    (itemsize : ℕ) (shape : List ℕ) (strides : List ℤ) → length shape ≡ length strides → IsTail itemsize shape strides (tail_of_strides itemsize shape strides)

-- the bytes at the ranges, end to end, are the bytes of the items in order
abbrev pub RangesHaveTheContent : Type 0
RangesHaveTheContent =
    (d : Descriptor) (start joined : ℕ) (view : Layout) (bytes : List ℕ) → IsPlaced d start → joined ≤ tail_of d → Stands d start view
    → flat_map (λ range. bytes_in bytes range) (ranges_of d (pos start) joined) ≡ content_of_layout bytes view

abbrev pub RangesStayInside : Type 0
RangesStayInside =
    (d : Descriptor) (start joined : ℕ) (view : Layout) (room : ℕ) → IsPlaced d start → joined ≤ tail_of d → Stands d start view → LiesInside room view
    → All (λ (range : Range ℕ). range.end ≤ room) (ranges_of d (pos start) joined)

-- in a walk in column order, the bytes at the ranges, end to end, are the bytes of the items in column order
abbrev pub ColumnRangesHaveTheContent : Type 0
ColumnRangesHaveTheContent =
    (d : Descriptor) (start : ℕ) (view : Layout) (bytes : List ℕ) → Stands d start view
    → flat_map (λ range. bytes_in bytes range) (column_ranges_of d (pos start)) ≡ bytes_of_items bytes view.itemsize (column_starts view)

abbrev pub ColumnRangesStayInside : Type 0
ColumnRangesStayInside =
    (d : Descriptor) (start room : ℕ) → IsValid d start room → All (λ (range : Range ℕ). range.end ≤ room) (column_ranges_of d (pos start))

-- if the items of a view lie inside, they also do so in column order
abbrev pub ColumnsStayInside : Type 0
ColumnsStayInside = (room : ℕ) (view : Layout) → HasItemsOfItsShape view → LiesInside room view → LiesInside room (columns_of view)

-- a view without items has none in column order
abbrev pub NoItemsAreNoColumns : Type 0
NoItemsAreNoColumns = (view : Layout) → product view.shape ≡ 0 → column_starts view ≡ []

-- The items of a line lie among bytes if each byte of its ranges does.
abbrev pub LinesLieInside : Type 0
LinesLieInside =
    (line : SegmentLine) (room : ℕ) → IsLine line → All (λ (place : ℕ). place < room) (flat_map bytes_of (ranges_of_line line))
    → AreInside line.track.falls line.track.start line.track.step line.count line.size room

-- The bytes at the ranges of a line are those of its items, one after the other.
abbrev pub LinesHaveTheirPieces : Type 0
LinesHaveTheirPieces =
    (line : SegmentLine) (bytes : List ℕ) → flat_map (bytes_in bytes) (ranges_of_line line) ≡ pieces_at bytes (place_of line.track.falls line.track.start line.track.step) line.size line.count

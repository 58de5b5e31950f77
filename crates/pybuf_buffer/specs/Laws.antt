-- How many ranges are counted while a buffer is appended.
use Rattle.std.specs.Prelude.{◌≡◌, ℕ, ◌-◌, ◌<◌, ◌≤◌, ℤ, Bool, Option, None, Some, [], length, take, slice_get, pos, true, false, All}
use Rattle.std.specs.Ordering.{int_eq}
use Rattle.std.specs.declared.ops.Range.{Range}
use Rattle.pybuf_desc.specs.Layouts.{Layout, product}
use Rattle.pybuf_desc.specs.Strides.{HasRowMajorStrides}
use Rattle.pybuf_desc.specs.Descriptor.{Descriptor}
use Rattle.pybuf_desc.specs.Places.{Stands}
use Rattle.pybuf_desc.specs.Valid.{IsPlaced}
use Rattle.pybuf_desc.specs.Segments.{ranges_of, joined_count}
use Rattle.pybuf_buffer.specs.Appending.{range_count, shape_before_tail}

-- The walk over a view's items that joins dimensions has as many ranges as are counted, and none of them is
-- empty.
pub record AreCounted (d : Descriptor) (start : ℕ) (view : Layout) : Type 0 where
  pub count : length (ranges_of d (pos start) (joined_count d true)) ≡ range_count view
  pub nonempty : All (λ (range : Range ℕ). range.start < range.end) (ranges_of d (pos start) (joined_count d true))

abbrev pub RangesAreCounted : Type 0
RangesAreCounted = (d : Descriptor) (start : ℕ) (view : Layout) → IsPlaced d start → Stands d start view → AreCounted d start view

-- There are at most as many ranges as the product of the entries before the tail. There is one if all items lie
-- one after the other, and none if there are no items.
pub record IsBounded (view : Layout) : Type 0 where
  pub before_tail : range_count view ≤ product (shape_before_tail view)
  pub packed : length view.shape ≡ length view.strides → HasRowMajorStrides view → 0 < product view.shape → range_count view ≡ 1
  pub none : product view.shape ≡ 0 → range_count view ≡ 0

abbrev pub RangeCountsAreBounded : Type 0
RangeCountsAreBounded = (view : Layout) → IsBounded view

-- whether a stride is the item size, which is false if there is no dimension
abbrev pub is_stride : ℕ → Option ℤ → Bool
is_stride itemsize None = false
is_stride itemsize (Some stride) = int_eq stride (pos itemsize)

-- Items that differ only in the last index lie one after the other.
abbrev pub has_joined_rows : Layout → Bool
has_joined_rows view = is_stride view.itemsize (slice_get view.strides (length view.strides - 1))

-- The ranges of a view that has a stride for each dimension. If the last stride is the item size, there are at
-- most as many ranges as the product of the other entries. There are always at most as many ranges as items,
-- and at most 1 if the view has no dimension.
pub record IsBoundedByRows (view : Layout) : Type 0 where
  pub joined : has_joined_rows view ≡ true → range_count view ≤ product (take (length view.shape - 1) view.shape)
  pub apart : range_count view ≤ product view.shape
  pub alone : view.shape ≡ [] → range_count view ≤ 1

abbrev pub RangeCountsAreBoundedByRows : Type 0
RangeCountsAreBoundedByRows = (view : Layout) → length view.shape ≡ length view.strides → IsBoundedByRows view

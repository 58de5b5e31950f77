-- When two views are equal. They need the same number of dimensions, shapes that agree, and equal items. Each item is
-- read by the format of its own side.
use Rattle.std.specs.Prelude.{ℕ, zero, suc, ◌==◌, ◌&&◌, Bool, true, false, List, [], ◌∷◌, take, drop, length, codes, bytes_eq}
use Rattle.pybuf_value.specs.declared.values.Item.{Item}
use Rattle.pybuf_value.specs.declared.snaps.Snap.{Snap}
use Rattle.pybuf_value.specs.declared.snaps.SnapKind.TheVariants as kind
use Rattle.pybuf_value.specs.Equality.{same_item}
use Rattle.pybuf_desc.specs.Layouts.{product, Layout}
use Rattle.pybuf_memoryview.specs.Items.{item_by}
use Rattle.pybuf_desc.specs.Items.{content_of_layout}
use Rattle.pybuf_memoryview.specs.Lists.{items_of_layout}
use Rattle.pybuf_memoryview.specs.Snaps.{snap_of_layout}

-- ---- the items of what a handle names

-- the items that content is read as, in order: this many of them, of one format and its size
abbrev pub items_cut : List ℕ → ℕ → ℕ → List ℕ → List Item
items_cut format size zero content = []
items_cut format size (suc n) content = item_by format (take size content) ∷ items_cut format size n (drop size content)

-- all items of a view or an exporter, as it is lent
abbrev pub items_of_snap : Snap → List Item
items_of_snap s = items_cut s.format s.itemsize (product s.shape) s.content

-- ---- equality

-- what the dimensions after this one say; it doesn't matter if this one has no entry on either side
abbrev pub agree_after : ℕ → Bool → Bool
agree_after zero later = true
agree_after (suc n) later = later

-- The entries of each dimension are the same, from the first dimension on. If both sides have no entry in one
-- dimension, there are no items, and the rest isn't compared.
abbrev pub shapes_agree : List ℕ → List ℕ → Bool
shapes_agree [] [] = true
shapes_agree [] (m ∷ others) = false
shapes_agree (n ∷ shape) [] = false
shapes_agree (n ∷ shape) (m ∷ others) = n == m && agree_after n (shapes_agree shape others)

-- there are as many items on both sides, and each is equal to the item with the same number
abbrev pub same_items : List Item → List Item → Bool
same_items [] [] = true
same_items [] (y ∷ ys) = false
same_items (x ∷ xs) [] = false
same_items (x ∷ xs) (y ∷ ys) = same_item x y && same_items xs ys

-- whether two views or exporters are equal as they are lent; this says nothing of released views
abbrev pub same_view : Snap → Snap → Bool
same_view left right =
    length left.shape == length right.shape && (shapes_agree left.shape right.shape && same_items (items_of_snap left) (items_of_snap right))

-- ---- bytes without a view

-- bytes count as one dimension of items of the format `B`
abbrev pub snap_of_bytes : List ℕ → Snap
snap_of_bytes bytes = record {
  kind = kind.Bytes;
  format = codes "B";
  itemsize = 1;
  shape = length bytes ∷ [];
  content = bytes;
  contiguous = true;
  released = false;
}

-- ---- two layouts, each over bytes of its own

-- their items are equal, each read by the format of its own side
abbrev pub have_equal_items : List ℕ → Layout → List ℕ → Layout → Bool
have_equal_items bytes layout other other_layout = same_items (items_of_layout bytes layout) (items_of_layout other other_layout)

-- the bytes of their items are the same
abbrev pub have_same_content : List ℕ → Layout → List ℕ → Layout → Bool
have_same_content bytes layout other other_layout = bytes_eq (content_of_layout bytes layout) (content_of_layout other other_layout)

-- they are equal views
abbrev pub are_equal_views : List ℕ → Layout → List ℕ → Layout → Bool
are_equal_views bytes layout other other_layout = same_view (snap_of_layout bytes layout false) (snap_of_layout other other_layout false)

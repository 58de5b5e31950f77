-- The laws of items and of the bytes of views.
use Rattle.std.specs.Prelude.{◌≡◌, ℕ, ◌*◌, ◌<◌, List, [], ◌∷◌, length, map, pos, codes, slice_index, true, false, Ok, ⊤}
use Rattle.std.specs.List.{All, flat_map, range_with_len}
use Rattle.pybuf_value.specs.declared.values.Scalar.{Scalar}
use Rattle.pybuf_value.specs.declared.values.Value.{Value}
use Rattle.pybuf_value.specs.declared.snaps.Snap.{Snap}
use Rattle.pybuf_value.specs.Refusing.{◌>>=◌}
use Rattle.pybuf_slice.specs.Reads.{elements_at}
use Rattle.pybuf_struct.specs.Formats.{Format}
use Rattle.pybuf_struct.specs.Packing.{packed_bytes}
use Rattle.pybuf_desc.specs.Layouts.{Layout, LiesInside, product}
use Rattle.pybuf_desc.specs.Items.{content_of_layout}
use Rattle.pybuf_desc.specs.Contiguous.{is_contiguous_layout}
use Rattle.pybuf_desc.specs.Descriptor.{Descriptor}
use Rattle.pybuf_desc.specs.Places.{Stands}
use Rattle.pybuf_desc.specs.Segments.{item_bytes}
use Rattle.pybuf_memoryview.specs.Items.{piece_by}
use Rattle.pybuf_memoryview.specs.Keys.{item_at_indices, item_of_key}
use Rattle.pybuf_memoryview.specs.SingleBytes.{byte_for_item}
use Rattle.pybuf_memoryview.specs.Reading.{reads_bytes}

-- the bytes of a value that is written as an item of the format `B` are its one byte, whatever is lent
abbrev pub ByteItemsAreTheirByte : Type 0
ByteItemsAreTheirByte = (pairs : List (ℕ × Snap)) (v : Value) → piece_by (codes "B") pairs v ≡ (byte_for_item v >>= λ byte. Ok (byte ∷ []))

-- a format without codes for bytes writes the same bytes, whatever is lent
abbrev pub NumbersLookAtNoLoan : Type 0
NumbersLookAtNoLoan = (f : Format) (pairs : List (ℕ × Snap)) (vs : List Scalar) → reads_bytes f ≡ false → packed_bytes f [] vs ≡ packed_bytes f pairs vs

-- the item that a key names is an item of the view
abbrev pub KeysNameItems : Type 0
KeysNameItems = (shape : List ℕ) (key : Value) (item : ℕ) → item_of_key shape key ≡ Ok item → item < product shape

-- there is an entry for each dimension, and it is one that the dimension has
abbrev pub AreEntries : List ℕ → List ℕ → Type 0
AreEntries [] [] = ⊤
AreEntries (n ∷ shape) (entry ∷ entries) = (entry < n) × AreEntries shape entries
AreEntries _ _ = ⊥

-- an item is named by one list of entries, with an entry for each dimension, and by no other
pub record HasItsEntries (shape : List ℕ) (item : ℕ) : Type 0 where
  pub entries : List ℕ
  pub there : AreEntries shape entries
  pub named : item_at_indices shape (map pos entries) ≡ Ok item
  pub alone : (others : List ℕ) → AreEntries shape others → item_at_indices shape (map pos others) ≡ Ok item → others ≡ entries

-- each item of a view has its entries
abbrev pub ItemsHaveTheirEntries : Type 0
ItemsHaveTheirEntries = (shape : List ℕ) (item : ℕ) → item < product shape → HasItsEntries shape item

-- if the items of a view lie inside, the view has all of their bytes
abbrev pub ContentsAreWhole : Type 0
ContentsAreWhole = (bytes : List ℕ) (layout : Layout) → LiesInside (length bytes) layout → length (content_of_layout bytes layout) ≡ layout.itemsize * length layout.starts

-- ---- the places of the bytes of a view's items, item by item; a descriptor stands for the view

-- if the items lie inside, so do these places
abbrev pub ItemBytesLieInside : Type 0
ItemBytesLieInside =
    (d : Descriptor) (start : ℕ) (layout : Layout) (room : ℕ) → Stands d start layout → LiesInside room layout → All (λ place. place < room) (item_bytes d (pos start))

-- the bytes at these places are the bytes of the view
abbrev pub ItemBytesAreTheContent : Type 0
ItemBytesAreTheContent =
    (bytes : List ℕ) (d : Descriptor) (start : ℕ) (layout : Layout) → Stands d start layout → elements_at bytes (item_bytes d (pos start)) ≡ content_of_layout bytes layout

-- if the items lie one after the other, these places are one run, from the place of the first item on
abbrev pub ContiguousItemsAreOneRun : Type 0
ContiguousItemsAreOneRun =
    (layout : Layout) → is_contiguous_layout layout ≡ true
    → flat_map (λ (start : ℕ). range_with_len start layout.itemsize) layout.starts ≡ range_with_len (slice_index layout.starts 0) (layout.itemsize * length layout.starts)

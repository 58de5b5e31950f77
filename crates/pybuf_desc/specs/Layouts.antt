-- Views as their users know them: what their items are, and where each of them lies.
use Rattle.std.specs.Prelude.{◌≡◌, ℕ, ◌+◌, ◌*◌, ◌≤◌, ℤ, pos, Bool, List, [], ◌∷◌, length, map, codes}
use Rattle.std.specs.List.{All, range_with_len}

-- how many items a shape has: the product of its entries, which is 1 if there is no dimension
abbrev pub product : List ℕ → ℕ
product [] = 1
product (n ∷ shape) = n * product shape

-- A view has the format of an item and its size in bytes, the number of entries of each dimension, the place of each
-- item's first byte in row-major order, the strides that it shows, and whether it may only be read. A view without
-- dimensions has one item.
pub record Layout : Type 0 where
  pub format : List ℕ
  pub itemsize : ℕ
  pub shape : List ℕ
  pub starts : List ℕ
  pub strides : List ℤ
  pub readonly : Bool

-- there is an item for each combination of entries
abbrev pub HasItemsOfItsShape : Layout → Type 0
HasItemsOfItsShape view = length view.starts ≡ product view.shape

-- each byte of each item lies from 0 up to the room
abbrev pub LiesInside : ℕ → Layout → Type 0
LiesInside room view = All (λ start. start + view.itemsize ≤ room) view.starts

-- one dimension of items, one after the other from place 0 on
abbrev pub flat_layout : List ℕ → ℕ → ℕ → Bool → Layout
flat_layout format itemsize count readonly =
    record {
      format = format;
      itemsize = itemsize;
      shape = count ∷ [];
      starts = map (λ k. k * itemsize) (range_with_len 0 count);
      strides = pos itemsize ∷ [];
      readonly = readonly;
    }

-- one dimension of bytes from place 0 on
abbrev pub bytes_layout : ℕ → Bool → Layout
bytes_layout count readonly =
    record {
      format = codes "B";
      itemsize = 1;
      shape = count ∷ [];
      starts = range_with_len 0 count;
      strides = pos 1 ∷ [];
      readonly = readonly;
    }

-- one dimension of this many bytes from a place on
abbrev pub bytes_layout_from : ℕ → ℕ → Bool → Layout
bytes_layout_from start count readonly = record (bytes_layout count readonly) { starts = range_with_len start count }

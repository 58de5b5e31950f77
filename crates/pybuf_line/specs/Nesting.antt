-- Laws of the text of items with a shape: how the text is nested, and that the items stand in it in order.
use Rattle.std.specs.Prelude.{◌≡◌, ◌⊎◌, ℕ, ◌*◌, IsTrue, Bool, List, [], ◌∷◌, ◌++◌, length, codes, ◌==◌, ◌||◌}
use Rattle.std.specs.Str.{byte}
use Rattle.std.specs.List.{flat_map, join_by, AllByRecursion}
use mathlib.Core.Logic.{inl, inr}
use Rattle.pybuf_value.specs.declared.values.Item.{Item}
use Rattle.pybuf_desc.specs.Layouts.{product}
use Rattle.pybuf_value.specs.Spelling.{item_text, list_text}
use Rattle.pybuf_command.specs.Shown.{blocks, nested_text}

-- Blocks of items: put end to end they are the items, there are n of them, and each has `size` items.
pub record AreBlocks (n size : ℕ) (items : List Item) (cuts : List (List Item)) : Type 0 where
  pub joined : flat_map (λ block. block) cuts ≡ items
  pub many : length cuts ≡ n
  pub alike : AllByRecursion (λ block. length block ≡ size) cuts

abbrev pub BlocksAreTheItems : Type 0
BlocksAreTheItems = (n size : ℕ) (items : List Item) → length items ≡ n * size → AreBlocks n size items (blocks n items)

-- A list is written as its parts in brackets, with a comma and a blank between each two. If the items have one
-- dimension, the text is the list of the items. If they have more, it is the list of the blocks of the first
-- dimension, and the shape that is left nests each block.
pub record NestingIsTheShape (name : ℕ → List ℕ) : Type 0 where
  pub list : (items : List Item) → list_text (item_text name) items ≡ codes "[" ++ join_by (item_text name) (codes ", ") items ++ codes "]"
  pub lists : (inner : List ℕ) (parts : List (List Item)) →
      list_text (nested_text (item_text name) inner) parts ≡ codes "[" ++ join_by (nested_text (item_text name) inner) (codes ", ") parts ++ codes "]"
  pub flat : (n : ℕ) (items : List Item) → nested_text (item_text name) (n ∷ []) items ≡ list_text (item_text name) items
  pub nested : (n m : ℕ) (more : List ℕ) (items : List Item) →
      nested_text (item_text name) (n ∷ m ∷ more) items ≡ list_text (nested_text (item_text name) (m ∷ more)) (blocks n items)
  pub cuts : BlocksAreTheItems

-- a bracket, or a byte of the separator
abbrev pub is_sign : ℕ → Bool
is_sign b = b == byte "[" || b == byte "]" || b == byte "," || b == byte " "

-- a piece of the text of items: a sign, or an item
abbrev pub piece_text : (Item → List ℕ) → ℕ ⊎ Item → List ℕ
piece_text text (inl sign) = sign ∷ []
piece_text text (inr one) = text one

abbrev pub item_of : ℕ ⊎ Item → List Item
item_of (inl sign) = []
item_of (inr one) = one ∷ []

abbrev pub IsPiece : ℕ ⊎ Item → Type 0
IsPiece (inl sign) = IsTrue (is_sign sign)
IsPiece (inr one) = Unit {0}

-- A text is made of signs and of the texts of items: it has all of these items, in order, and no others.
pub record HasItemsInOrder (text : Item → List ℕ) (shown : List ℕ) (items : List Item) : Type 0 where
  pub pieces : List (ℕ ⊎ Item)
  pub are_pieces : AllByRecursion IsPiece pieces
  pub whole : shown ≡ flat_map (piece_text text) pieces
  pub in_order : flat_map item_of pieces ≡ items

-- The items stand in the text in order, if there are as many as the shape has.
abbrev pub ItemsStandInOrder : (ℕ → List ℕ) → Type 0
ItemsStandInOrder name = (shape : List ℕ) (items : List Item) → length items ≡ product shape →
    HasItemsInOrder (item_text name) (nested_text (item_text name) shape items) items

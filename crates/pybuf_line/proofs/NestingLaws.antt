-- The text of items is nested by their shape, and has the items in order.
use Rattle.std.proofs.Common.{◌≡◌, ◌⊎◌, inl, inr, ℕ, zero, suc, ◌*◌, ◌/◌, ◌-◌, ◌≤◌, List, [], ◌∷◌, ◌++◌, length, take, drop, codes, refl, sym, ◌∙◌, ap, arith}
use Rattle.std.specs.List.{flat_map, join_by, AllByRecursion}
use Rattle.std.proofs.Math.Nat.{mul-div_cancel_left}
use Rattle.std.proofs.lemmas.List.{take-append-drop, length-take-le, length-drop, append-nil}
use Rattle.std.proofs.lemmas.Grind.{flat_map-append}
use Rattle.pybuf_value.specs.declared.values.Item.{Item}
use Rattle.pybuf_desc.specs.Layouts.{product}
use Rattle.pybuf_value.specs.Spelling.{handle_text, item_text, list_text, next_part_text}
use Rattle.pybuf_command.specs.Shown.{cut, blocks, nested_text}
use Rattle.pybuf_line.specs.Nesting.{AreBlocks, BlocksAreTheItems, NestingIsTheShape, piece_text, item_of, IsPiece, HasItemsInOrder, ItemsStandInOrder}

-- ---- blocks
left_of : (n size len : ℕ) → len ≡ suc n * size → len - size ≡ n * size
left_of n size len h = omega (arith, h)

first_fits : (n size len : ℕ) → len ≡ suc n * size → size ≤ len
first_fits n size len h = omega (arith, h)

no_items : (items : List Item) → length items ≡ 0 → [] ≡ items
no_items [] h = refl
no_items (x ∷ items) h = let bad : ⊥ = omega (arith, h) in absurd bad

cuts_joined : (n size : ℕ) (items : List Item) → length items ≡ n * size → flat_map (λ block. block) (cut n size items) ≡ items
cuts_joined zero size items h = no_items items (omega (arith, h))
cuts_joined (suc n) size items h =
    ap (λ rest. take size items ++ rest)
    (cuts_joined n size (drop size items) (length-drop size items ∙ left_of n size (length items) h))
    ∙ take-append-drop size items

cuts_many : (n size : ℕ) (items : List Item) → length (cut n size items) ≡ n
cuts_many zero size items = refl
cuts_many (suc n) size items = ap suc (cuts_many n size (drop size items))

cuts_alike : (n size : ℕ) (items : List Item) → length items ≡ n * size → AllByRecursion (λ block. length block ≡ size) (cut n size items)
cuts_alike zero size items h = tt
cuts_alike (suc n) size items h = (
  length-take-le size items (first_fits n size (length items) h),
  cuts_alike n size (drop size items) (length-drop size items ∙ left_of n size (length items) h),
)

size_of_block : (n size len : ℕ) → len ≡ suc n * size → len / suc n ≡ size
size_of_block n size len h = ap (λ l. l / suc n) h ∙ mul-div_cancel_left size (omega arith)

cuts_of : (n size : ℕ) (items : List Item) → length items ≡ n * size → AreBlocks n size items (cut n size items)
cuts_of n size items h = record { joined = cuts_joined n size items h; many = cuts_many n size items; alike = cuts_alike n size items h }

blocks_are : BlocksAreTheItems
blocks_are zero size items h = cuts_of zero size items h
blocks_are (suc n) size items h =
    rw (size_of_block n size (length items) h) (cuts_of (suc n) size items h)

-- A list is its parts, joined.
list_joined : {P : Type 0} (text : P → List ℕ) (parts : List P) → list_text text parts ≡ codes "[" ++ join_by text (codes ", ") parts ++ codes "]"
list_joined text [] = refl
list_joined text (part ∷ more) = refl

pub nesting_is : NestingIsTheShape handle_text
nesting_is = record { list = list_joined (item_text handle_text); lists = λ inner parts. list_joined (nested_text (item_text handle_text) inner) parts; flat = λ n items. refl; nested = λ n m more items. refl; cuts = blocks_are }

-- ---- items in order
all_pieces : (xs ys : List (ℕ ⊎ Item)) → AllByRecursion IsPiece xs → AllByRecursion IsPiece ys → AllByRecursion IsPiece (xs ++ ys)
all_pieces [] ys h k = k
all_pieces (x ∷ xs) ys h k = (h.0, all_pieces xs ys h.1 k)

-- One text follows another.
then : (text : Item → List ℕ) (a b : List ℕ) (xs ys : List Item) → HasItemsInOrder text a xs → HasItemsInOrder text b ys →
    HasItemsInOrder text (a ++ b) (xs ++ ys)
then text a b xs ys h k = record {
  pieces = h.pieces ++ k.pieces;
  are_pieces = all_pieces h.pieces k.pieces h.are_pieces k.are_pieces;
  whole = rw (h.whole, k.whole) (sym (flat_map-append (piece_text text) h.pieces k.pieces));
  in_order = flat_map-append item_of h.pieces k.pieces ∙ rw (h.in_order, k.in_order) refl;
}

opening : (text : Item → List ℕ) → HasItemsInOrder text (codes "[") []
opening text = record { pieces = inl 91 ∷ []; are_pieces = (refl, tt); whole = refl; in_order = refl }

closing : (text : Item → List ℕ) → HasItemsInOrder text (codes "]") []
closing text = record { pieces = inl 93 ∷ []; are_pieces = (refl, tt); whole = refl; in_order = refl }

between : (text : Item → List ℕ) → HasItemsInOrder text (codes ", ") []
between text = record { pieces = inl 44 ∷ inl 32 ∷ []; are_pieces = (refl, (refl, tt)); whole = refl; in_order = refl }

nothing : (text : Item → List ℕ) → HasItemsInOrder text [] []
nothing text = record { pieces = []; are_pieces = tt; whole = refl; in_order = refl }

one : (text : Item → List ℕ) (x : Item) → HasItemsInOrder text (text x) (x ∷ [])
one text x = record { pieces = inr x ∷ []; are_pieces = (tt, tt); whole = sym (append-nil (text x)); in_order = refl }

-- Each of the parts has its items in order.
next_parts : {P : Type 0} (text : Item → List ℕ) (shown : P → List ℕ) (held : P → List Item) (Q : P → Type 0) →
    ((p : P) → Q p → HasItemsInOrder text (shown p) (held p)) → (parts : List P) → AllByRecursion Q parts →
    HasItemsInOrder text (flat_map (next_part_text shown) parts) (flat_map held parts)
next_parts text shown held Q each [] h = nothing text
next_parts text shown held Q each (p ∷ parts) h =
    then text (next_part_text shown p) (flat_map (next_part_text shown) parts) (held p) (flat_map held parts)
    (then text (codes ", ") (shown p) [] (held p) (between text) (each p h.0))
    (next_parts text shown held Q each parts h.1)

all_parts : {P : Type 0} (text : Item → List ℕ) (shown : P → List ℕ) (held : P → List Item) (Q : P → Type 0) →
    ((p : P) → Q p → HasItemsInOrder text (shown p) (held p)) → (parts : List P) → AllByRecursion Q parts →
    HasItemsInOrder text (join_by shown (codes ", ") parts) (flat_map held parts)
all_parts text shown held Q each [] h = nothing text
all_parts text shown held Q each (p ∷ parts) h =
    then text (shown p) (flat_map (next_part_text shown) parts) (held p) (flat_map held parts)
    (each p h.0) (next_parts text shown held Q each parts h.1)

same_items : (text : Item → List ℕ) (shown : List ℕ) (xs ys : List Item) → xs ≡ ys → HasItemsInOrder text shown xs → HasItemsInOrder text shown ys
same_items text shown xs ys e h = record { pieces = h.pieces; are_pieces = h.are_pieces; whole = h.whole; in_order = h.in_order ∙ e }

same_text : (text : Item → List ℕ) (a b : List ℕ) (xs : List Item) → a ≡ b → HasItemsInOrder text b xs → HasItemsInOrder text a xs
same_text text a b xs e h = record { pieces = h.pieces; are_pieces = h.are_pieces; whole = e ∙ h.whole; in_order = h.in_order }

list_in_order : {P : Type 0} (text : Item → List ℕ) (shown : P → List ℕ) (held : P → List Item) (Q : P → Type 0) →
    ((p : P) → Q p → HasItemsInOrder text (shown p) (held p)) → (parts : List P) → AllByRecursion Q parts →
    HasItemsInOrder text (list_text shown parts) (flat_map held parts)
list_in_order text shown held Q each parts h =
    same_items text (list_text shown parts) (flat_map held parts ++ []) (flat_map held parts) (append-nil (flat_map held parts))
    (same_text text (list_text shown parts) (codes "[" ++ join_by shown (codes ", ") parts ++ codes "]") (flat_map held parts ++ []) (list_joined shown parts)
    (then text (codes "[") (join_by shown (codes ", ") parts ++ codes "]") [] (flat_map held parts ++ []) (opening text)
    (then text (join_by shown (codes ", ") parts) (codes "]") (flat_map held parts) [] (all_parts text shown held Q each parts h) (closing text))))

-- the items by themselves
alone : (items : List Item) → flat_map (λ x. x ∷ []) items ≡ items
alone [] = refl
alone (x ∷ items) = ap (λ rest. x ∷ rest) (alone items)

any_items : (items : List Item) → AllByRecursion (λ x. Unit {0}) items
any_items [] = tt
any_items (x ∷ items) = (tt, any_items items)

items_in_order : (text : Item → List ℕ) (items : List Item) → HasItemsInOrder text (list_text text items) items
items_in_order text items =
    same_items text (list_text text items) (flat_map (λ x. x ∷ []) items) items (alone items)
    (list_in_order text text (λ x. x ∷ []) (λ x. Unit {0}) (λ x h. one text x) items (any_items items))

nested_in_order : (text : Item → List ℕ) (shape : List ℕ) (items : List Item) → length items ≡ product shape →
    HasItemsInOrder text (nested_text text shape items) items
nested_in_order text [] items h = items_in_order text items
nested_in_order text (n ∷ []) items h = items_in_order text items
nested_in_order text (n ∷ m ∷ more) items h =
    let cuts : AreBlocks n (product (m ∷ more)) items (blocks n items) = blocks_are n (product (m ∷ more)) items h in
    same_items text (nested_text text (n ∷ m ∷ more) items) (flat_map (λ block. block) (blocks n items)) items cuts.joined
    (list_in_order text (nested_text text (m ∷ more)) (λ block. block) (λ block. length block ≡ product (m ∷ more))
    (nested_in_order text (m ∷ more)) (blocks n items) cuts.alike)

pub in_order : ItemsStandInOrder handle_text
in_order shape items h = nested_in_order (item_text handle_text) shape items h

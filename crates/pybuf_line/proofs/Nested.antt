-- Blocks of items that are written one after another.
use Rattle.std.proofs.Common.{◌≡◌, ℕ, zero, suc, ◌+◌, ◌*◌, ◌-◌, ◌/◌, ◌<◌, ◌≤◌, List, [], ◌∷◌, ◌++◌, length, take, drop, slice_index_or, codes, refl, sym, ◌∙◌, ap, arith}
use Rattle.std.specs.List.{flat_map}
use Rattle.std.proofs.lemmas.List.{append_assoc, append-nil}
use Rattle.std.proofs.Math.Seq.{take-length}
use Rattle.pybuf_value.specs.declared.values.Item.{Item}
use Rattle.pybuf_value.specs.Spelling.{handle_text, item_text, list_text, next_part_text}
use Rattle.pybuf_command.specs.Shown.{cut, nested_text}

-- the text of a block, by the shape of each block
abbrev pub block_text : List ℕ → List Item → List ℕ
block_text inner items = nested_text (item_text handle_text) inner items

-- the text of the blocks that are left
abbrev pub left_text : List ℕ → ℕ → ℕ → List Item → List ℕ
left_text inner n size items = flat_map (next_part_text (block_text inner)) (cut n size items)

one_left : (i n : ℕ) → i < n → n - i ≡ suc (n - (i + 1))
one_left i n h = omega (arith, h)

pub fits_then : (i n size len rest : ℕ) → i < n → (n - i) * size ≤ len → rest + size ≡ len → (n - (i + 1)) * size ≤ rest
fits_then i n size len rest h k r =
    let m = n - (i + 1) in
    let e : suc m * size ≤ len = rw (sym (one_left i n h)) k in
    omega (arith, e, r)

-- one more block
pub block_more : (inner : List ℕ) (i n size : ℕ) (items block rest : List Item) (all out out1 out2 : List ℕ) → i < n →
    out ++ left_text inner (n - i) size items ≡ all → block ≡ take size items → rest ≡ drop size items →
    out1 ≡ out ++ codes ", " → out2 ≡ out1 ++ block_text inner block →
    out2 ++ left_text inner (n - (i + 1)) size rest ≡ all
block_more inner i n size items block rest all out out1 out2 h k first last e1 e2 =
    let shown = block_text inner (take size items) in
    let more = left_text inner (n - (i + 1)) size (drop size items) in
    let split : left_text inner (n - i) size items ≡ (codes ", " ++ shown) ++ more = ap (λ m. left_text inner m size items) (one_left i n h) in
    let now : out2 ≡ out ++ (codes ", " ++ shown) =
    e2 ∙ (ap (λ b. out1 ++ block_text inner b) first ∙ (ap (λ o. o ++ shown) e1 ∙ append_assoc out (codes ", ") shown)) in
    ap (λ o. o ++ left_text inner (n - (i + 1)) size rest) now
    ∙ (ap (λ r. (out ++ (codes ", " ++ shown)) ++ left_text inner (n - (i + 1)) size r) last
    ∙ (append_assoc out (codes ", " ++ shown) more ∙ (ap (λ t. out ++ t) (sym split) ∙ k)))

-- A shape of at most one dimension makes one list.
pub in_one_list : (shape : List ℕ) (items : List Item) → length shape < 2 →
    nested_text (item_text handle_text) shape items ≡ list_text (item_text handle_text) items
in_one_list [] items h = refl
in_one_list (n ∷ []) items h = refl
in_one_list (n ∷ m ∷ more) items h = let bad : ⊥ = omega (arith, h) in absurd bad

-- the dimensions after the first
abbrev pub inner_of : List ℕ → List ℕ
inner_of shape = take (length shape - 1) (drop 1 shape)

inner_is : (n : ℕ) (more : List ℕ) → inner_of (n ∷ more) ≡ more
inner_is n more = let e : length (n ∷ more) - 1 ≡ length more = omega arith in ap (λ k. take k more) e ∙ take-length more

-- The shape has several dimensions, and at least one entry. There is a first block, and then what is left.
abbrev pub first_text : List ℕ → ℕ → List Item → List ℕ
first_text shape size items = block_text (inner_of shape) (take size items)

abbrev pub others_text : List ℕ → ℕ → ℕ → List Item → List ℕ
others_text shape n size items = left_text (inner_of shape) n size (drop size items)

pub in_blocks : (shape : List ℕ) (items : List Item) → 2 ≤ length shape → 0 < slice_index_or shape 0 0 →
    nested_text (item_text handle_text) shape items ≡
    codes "["
    ++ first_text shape (length items / slice_index_or shape 0 0) items
    ++ others_text shape (slice_index_or shape 0 0 - 1) (length items / slice_index_or shape 0 0) items
    ++ codes "]"
in_blocks [] items h k = let bad : ⊥ = omega (arith, h) in absurd bad
in_blocks (n ∷ []) items h k = let bad : ⊥ = omega (arith, h) in absurd bad
in_blocks (zero ∷ m ∷ more) items h k = let bad : ⊥ = omega (arith, k) in absurd bad
in_blocks (suc n ∷ m ∷ more) items h k =
    let size = length items / suc n in
    let one : suc n - 1 ≡ n = omega arith in
    let shown : List ℕ → ℕ → List ℕ = λ inner left. codes "[" ++ block_text inner (take size items) ++ left_text inner left size (drop size items) ++ codes "]" in
    ap (λ inner. shown inner n) (sym (inner_is (suc n) (m ∷ more))) ∙ ap (shown (inner_of (suc n ∷ m ∷ more))) (sym one)

-- All blocks stand between their brackets.
pub all_blocks : (o o1 o2 o3 o4 a l : List ℕ) (inner : List ℕ) (n i size : ℕ) (rest : List Item) →
    o1 ≡ o ++ 91 ∷ [] → o2 ≡ o1 ++ a → o3 ++ left_text inner (n - i) size rest ≡ o2 ++ l → n ≤ i → o4 ≡ o3 ++ 93 ∷ [] →
    o4 ≡ o ++ (codes "[" ++ a ++ l ++ codes "]")
all_blocks o o1 o2 o3 o4 a l inner n i size rest h1 h2 h3 h h4 =
    let none : n - i ≡ 0 = omega (arith, h) in
    let e : o3 ≡ o2 ++ l = sym (append-nil o3) ∙ ap (λ k. o3 ++ left_text inner k size rest) (sym none) ∙ h3 in
    rw (h4, e, h2, h1) (simp append_assoc)

-- Dimensions of kept layouts.
use Rattle.std.proofs.Common.{◌≡◌, ℕ, ◌+◌, ◌*◌, ◌<◌, List, [], ◌∷◌, length, get_or, zero, suc, ◌^◌, ◌≤◌, Bool, true, ap, sym, ◌∙◌, refl, subst, arith, lit<, le_refl, zero-mul, mul-le-mul_left, lt_of_le_of_lt}
use Rattle.std.specs.Prelude.{ℤ, pos, map, Some, slice_get, ◌==◌, ◌||◌}
use Rattle.std.specs.List.{list_any}
use Rattle.std.proofs.lemmas.Bool.{ne_eqb}
use Rattle.std.proofs.Math.Nat.{le-mul_of_pos_right}
use Rattle.pybuf_desc.specs.Facts.{positive_extent}
use Rattle.pybuf_desc.specs.Descriptor.{Descriptor, shape_of}
use Rattle.pybuf_desc.specs.Layouts.{Layout, product}
use Rattle.pybuf_desc.specs.Valid.{nonzero_entries, IsPlaced}
use Rattle.pybuf_desc.specs.Laws.{IsPosition}
use Rattle.pybuf_desc.specs.Positions.{number_of_item, offset_of, AreIndices}

pub one_dim : (dims : List (ℕ × ℤ × ℤ)) → length (shape_of dims) ≡ 1 → dims ≡ get_or dims 0 (0, pos 0, pos 0) ∷ []
one_dim [] one = absurd (omega (arith, one))
one_dim (dim ∷ []) one = refl
one_dim (dim ∷ (other ∷ dims)) one = absurd (omega (arith, one))

-- the only index of an item is its number
pub number_is : (dims : List (ℕ × ℤ × ℤ)) (item : ℕ) → length (shape_of dims) ≡ 1 → number_of_item (item ∷ []) dims ≡ item
number_is dims item one = ap (number_of_item (item ∷ [])) (one_dim dims one) ∙ (let same : item * 1 + 0 ≡ item = omega arith in same)

entry : (dims : List (ℕ × ℤ × ℤ)) → length (shape_of dims) ≡ 1 → get_or (shape_of dims) 0 0 ≡ (get_or dims 0 (0, pos 0, pos 0)).0
entry dims one = ap (λ (ds : List (ℕ × ℤ × ℤ)). get_or (shape_of ds) 0 0) (one_dim dims one)

pub in_range : (dims : List (ℕ × ℤ × ℤ)) (item : ℕ) → length (shape_of dims) ≡ 1 → item < get_or (shape_of dims) 0 0 → AreIndices (item ∷ []) dims
in_range dims item one below =
    let less : item < (get_or dims 0 (0, pos 0, pos 0)).0 = omega (arith, below, entry dims one) in
    subst (AreIndices (item ∷ [])) (sym (one_dim dims one)) (less, tt)

-- ---- how many entries a dimension has

entry_fits : (size most n : ℕ) (shape : List ℕ) → 0 < size → 0 < most → size * product (nonzero_entries (n ∷ shape)) < most → n < most
entry_fits size most zero shape some more fits = more
entry_fits size most (suc n) shape some more fits =
    let rest = positive_extent shape in
    let one : suc n ≤ suc n * product (nonzero_entries shape) = le-mul_of_pos_right (suc n) rest in
    let all : suc n * product (nonzero_entries shape) ≤ (suc n * product (nonzero_entries shape)) * size = le-mul_of_pos_right (suc n * product (nonzero_entries shape)) some in
    let same : size * (suc n * product (nonzero_entries shape)) ≡ (suc n * product (nonzero_entries shape)) * size = grind arith in
    omega (arith, one, all, same, fits)

entry_at : (d : Descriptor) (start : ℕ) (dims : List (ℕ × ℤ × ℤ)) (dim : ℕ × ℤ × ℤ) → IsPlaced d start → d.dims ≡ dims → Some dim ≡ slice_get dims 0 → dim.0 < 2 ^ 63
entry_at d start [] dim placed is found = absurd (cc)
entry_at d start (first ∷ dims) dim placed is found =
    let same : first ≡ dim = cc in
    let fits = subst (λ (ds : List (ℕ × ℤ × ℤ)). d.itemsize * product (nonzero_entries (shape_of ds)) < 2 ^ 63) is placed.valid.extent_fits in
    subst (λ (x : ℕ × ℤ × ℤ). x.0 < 2 ^ 63) same (entry_fits d.itemsize (2 ^ 63) first.0 (shape_of dims) placed.valid.some_size (let more : 0 < 2 ^ 63 = lit< tt in more) fits)

-- the first entry of a placed descriptor fits `isize`
pub first_fits : (d : Descriptor) (start : ℕ) (dim : ℕ × ℤ × ℤ) → IsPlaced d start → Some dim ≡ slice_get d.dims 0 → dim.0 < 2 ^ 63
first_fits d start dim placed found = entry_at d start d.dims dim placed refl found

pub entries_of_shape : (dims : List (ℕ × ℤ × ℤ)) → map (λ dim. pos dim.0) dims ≡ map (λ n. pos n) (shape_of dims)
entries_of_shape [] = refl
entries_of_shape (dim ∷ dims) = ap (λ (ns : List ℤ). pos dim.0 ∷ ns) (entries_of_shape dims)

-- where the item with a number lies, in one dimension
pub position_of_item : (d : Descriptor) (view : Layout) (start item : ℕ) (offset : ℤ) → length (shape_of d.dims) ≡ 1 → offset ≡ offset_of (item ∷ []) d.dims
    → IsPosition view start (number_of_item (item ∷ []) d.dims) (offset_of (item ∷ []) d.dims) → IsPosition view start item offset
position_of_item d view start item offset one is at =
    subst (λ (z : ℤ). IsPosition view start item z) (sym is) (subst (λ (k : ℕ). IsPosition view start k (offset_of (item ∷ []) d.dims)) (number_is d.dims item one) at)

-- ---- how many bytes there are

items_below : (shape : List ℕ) → product shape ≤ product (nonzero_entries shape)
items_below [] = le_refl 1
items_below (zero ∷ shape) = let none : zero * product shape ≡ 0 = zero-mul (product shape) in omega (arith, none)
items_below (suc n ∷ shape) = mul-le-mul_left (suc n) (items_below shape)

-- the bytes of the items of a placed descriptor fit `isize`
pub len_fits : (d : Descriptor) (start : ℕ) → IsPlaced d start → d.len < 2 ^ 63
len_fits d start placed =
    subst (λ n. n < 2 ^ 63) placed.valid.len (lt_of_le_of_lt (mul-le-mul_left d.itemsize (items_below (shape_of d.dims))) placed.valid.extent_fits)

-- ---- dimensions without an entry

pub any_entry : (dims : List (ℕ × ℤ × ℤ)) → list_any (λ (dim : ℕ × ℤ × ℤ). dim.0 == 0) dims ≡ list_any (λ n. n == 0) (shape_of dims)
any_entry [] = refl
any_entry (dim ∷ dims) = ap (λ (b : Bool). (dim.0 == 0) || b) (any_entry dims)

-- a shape with an entry of 0 has no item
pub zero_product : (shape : List ℕ) → list_any (λ n. n == 0) shape ≡ true → product shape ≡ 0
zero_product [] zeros = absurd (cc)
zero_product (zero ∷ shape) zeros = zero-mul (product shape)
zero_product (suc n ∷ shape) zeros = ap (λ (k : ℕ). suc n * k) (zero_product shape (sym (skips n (list_any (λ n. n == 0) shape)) ∙ zeros)) ∙ none n
  where
    skips : (n : ℕ) (b : Bool) → ((suc n == 0) || b) ≡ b
    skips n b = ap (λ (z : Bool). z || b) (ne_eqb (suc n) 0 (λ e. omega (arith, e)))

    none : (n : ℕ) → suc n * 0 ≡ 0
    none n = omega arith

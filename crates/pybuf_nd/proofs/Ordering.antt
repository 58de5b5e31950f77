-- Axes in another order.
use Rattle.std.proofs.Common.{◌≡◌, ◌≢◌, ℕ, zero, suc, ◌+◌, ◌*◌, ◌/◌, ◌^◌, ◌<◌, ◌≤◌, ℤ, pos, ◌+ℤ◌, ◌*ℤ◌, eqb, Bool, true, false, ◌&&◌, nat_lt, List, [], ◌∷◌, length, get_or, set, swap, reverse, map, drop, refl, ap, ap₂, sym, ◌∙◌, subst, arith, All, IsPermutation, mul_assoc, mul-div_cancel, length-set}
use Rattle.std.specs.List.{AllByRecursion, range_with_len, IsDistinct}
use Rattle.std.proofs.lemmas.Bool.{eqb-true, eqb-false, ne_eqb, ltb-false}
use Rattle.std.proofs.lemmas.Int.{ints}
use Rattle.std.proofs.lemmas.List.{length-map, get_or-set_same, get_or-set_other}
use Rattle.std.proofs.lemmas.List.FromFn.{length-range_with_len}
use Rattle.std.proofs.lemmas.List.Edits.{swap_is}
use Rattle.std.proofs.lemmas.List.Elements.{All-from_recursion, recursion_from_All}
use Rattle.std.proofs.lemmas.List.Sorted.{IsPermutation-map, IsPermutation-keeps, IsPermutation-swap, IsPermutation-reverse, All-permutation, length_permutation}
use Rattle.std.proofs.lemmas.Map.Keys.{IsDistinct-head, IsDistinct-tail, IsDistinct-IsPermutation}
use Rattle.std.proofs.lemmas.Simd.{map-map}
use Rattle.std.proofs.Math.ListN.{get_or-map}
use Rattle.std.proofs.Math.IntN.{zero-*ℤ}
use Rattle.pybuf_lemmas.proofs.Recursion.{dims_after_first}
use Rattle.pybuf_lemmas.proofs.Lists.{map_of_reverse, map_same}
use Rattle.pybuf_desc.specs.Facts.{nonzero_is, some_shape}
use Rattle.pybuf_desc.specs.Layouts.{Layout, product}
use Rattle.pybuf_desc.specs.Descriptor.{Descriptor, shape_of, strides_of}
use Rattle.pybuf_desc.specs.Places.{Stands}
use Rattle.pybuf_desc.specs.Positions.{offset_of}
use Rattle.pybuf_desc.specs.Valid.{IsValid, nonzero_entries}
use Rattle.pybuf_nd.specs.IndexMaps.{IsIndexList, view_by}
use Rattle.pybuf_nd.specs.Selections.{has_zero}
use Rattle.pybuf_nd.specs.Axes.{AreAxes, reversed_axes, put_at_axes, indices_by_axis, view_in_order, transposition_of}
use Rattle.pybuf_nd.specs.Dims.{in_dims, dims_in_order}
use Rattle.pybuf_nd.proofs.Cutting.{entries_some}
use Rattle.pybuf_nd.proofs.MadeLemmas.{dim_at}
use Rattle.pybuf_nd.proofs.Spread.{AreNonzero}
use Rattle.pybuf_nd.proofs.Planing.{nonzero_all}
use Rattle.pybuf_nd.proofs.Remaps.{Remaps, AreSound, stands_remap, valid_remap}

-- ---- numbers that differ

not_equal : (a b : ℕ) → eqb a b ≡ false → a ≢ b
not_equal a b f e = eqb-false a b f e

equal_flips : (a b : ℕ) → eqb a b ≡ eqb b a
equal_flips a b = by_tests (eqb a b) (eqb b a) refl refl
  where
    by_tests : (p q : Bool) → eqb a b ≡ p → eqb b a ≡ q → eqb a b ≡ eqb b a
    by_tests true true e f = e ∙ sym f
    by_tests false false e f = e ∙ sym f
    by_tests true false e f = absurd (eqb-false b a f (sym (eqb-true a b e)))
    by_tests false true e f = absurd (eqb-false a b e (sym (eqb-true b a f)))

less_differs : (a b : ℕ) → a < b → eqb a b ≡ false
less_differs a b h = ne_eqb a b (λ e. omega (arith, h, e))

range_above : (a b n : ℕ) → a < b → AllByRecursion (λ y. eqb a y ≡ false) (range_with_len b n)
range_above a b zero h = tt
range_above a b (suc n) h = (less_differs a b h, range_above a (b + 1) n (omega (arith, h)))

range_distinct : (a n : ℕ) → IsDistinct eqb (range_with_len a n)
unfolding IsDistinct
range_distinct a zero = tt
range_distinct a (suc n) = (range_above a (a + 1) n (omega arith), range_distinct (a + 1) n)

pub axes_distinct : (n : ℕ) (axes : List ℕ) → AreAxes n axes → IsDistinct eqb axes
axes_distinct n axes p = IsDistinct-IsPermutation eqb equal_flips (range_with_len 0 n) axes p (range_distinct 0 n)

range_below : (bound a n : ℕ) → a + n ≤ bound → AllByRecursion (λ y. y < bound) (range_with_len a n)
range_below bound a zero h = tt
range_below bound a (suc n) h = (omega (arith, h), range_below bound (a + 1) n (omega (arith, h)))

pub axes_below : (n : ℕ) (axes : List ℕ) → AreAxes n axes → All (λ axis. axis < n) axes
axes_below n axes p = All-permutation (λ axis. axis < n) (range_with_len 0 n) axes p (All-from_recursion (λ axis. axis < n) (range_with_len 0 n) (range_below n 0 n (omega arith)))

-- ---- the dimensions, in another order

-- the entries of a list, by their numbers
shifted : (f g : ℕ → ℕ × ℤ × ℤ) (a n : ℕ) → ((k : ℕ) → f (suc k) ≡ g k) → map f (range_with_len (suc a) n) ≡ map g (range_with_len a n)
shifted f g a zero e = refl
shifted f g a (suc n) e =
    ap₂ (λ (y : ℕ × ℤ × ℤ) (ys : List (ℕ × ℤ × ℤ)). y ∷ ys) (e a)
    (ap (λ m. map f (range_with_len m n)) (let h : suc a + 1 ≡ suc (a + 1) = omega arith in h) ∙ shifted f g (a + 1) n e)

all_entries : (dims : List (ℕ × ℤ × ℤ)) → map (dim_at dims) (range_with_len 0 (length dims)) ≡ dims
all_entries [] = refl
all_entries (dim ∷ dims) =
    ap (λ (ys : List (ℕ × ℤ × ℤ)). dim ∷ ys)
    (ap (λ m. map (dim_at (dim ∷ dims)) (range_with_len m (length dims))) (let h : 0 + 1 ≡ suc 0 = omega arith in h)
    ∙ shifted (dim_at (dim ∷ dims)) (dim_at dims) 0 (length dims) (λ k. refl) ∙ all_entries dims)

pub permuted : (dims : List (ℕ × ℤ × ℤ)) (axes : List ℕ) → AreAxes (length dims) axes → IsPermutation dims (dims_in_order dims axes)
permuted dims axes p =
    subst (λ (ds : List (ℕ × ℤ × ℤ)). IsPermutation ds (dims_in_order dims axes)) (all_entries dims) (IsPermutation-map (dim_at dims) (range_with_len 0 (length dims)) axes p)

pub shape_in_order : (dims : List (ℕ × ℤ × ℤ)) (axes : List ℕ) → shape_of (dims_in_order dims axes) ≡ map (λ axis. get_or (shape_of dims) axis 0) axes
shape_in_order dims axes =
    map-map (λ (dim : ℕ × ℤ × ℤ). dim.0) (dim_at dims) axes
    ∙ map_same (λ axis. (dim_at dims axis).0) (λ axis. get_or (shape_of dims) axis 0) axes (λ axis. sym (get_or-map (λ (dim : ℕ × ℤ × ℤ). dim.0) dims axis (0, pos 0, pos 0)))

pub strides_in_order : (dims : List (ℕ × ℤ × ℤ)) (axes : List ℕ) → strides_of (dims_in_order dims axes) ≡ map (λ axis. get_or (strides_of dims) axis (pos 0)) axes
strides_in_order dims axes =
    map-map (λ (dim : ℕ × ℤ × ℤ). dim.1) (dim_at dims) axes
    ∙ map_same (λ axis. (dim_at dims axis).1) (λ axis. get_or (strides_of dims) axis (pos 0)) axes (λ axis. sym (get_or-map (λ (dim : ℕ × ℤ × ℤ). dim.1) dims axis (0, pos 0, pos 0)))

-- ---- indices put at their axes

zeros_within : (dims : List (ℕ × ℤ × ℤ)) (xs : List ℕ) → length xs ≡ length dims → AreNonzero dims → IsIndexList (shape_of dims) (map (λ _. 0) xs)
zeros_within [] [] e some = tt
zeros_within [] (x ∷ xs) e some = absurd (omega (arith, e))
zeros_within (dim ∷ dims) [] e some = absurd (omega (arith, e))
zeros_within (dim ∷ dims) (x ∷ xs) e some = (some.0, zeros_within dims xs (omega (arith, e)) some.1)

set_within : (dims : List (ℕ × ℤ × ℤ)) (indices : List ℕ) (axis index : ℕ) → axis < length dims → index < (dim_at dims axis).0 → IsIndexList (shape_of dims) indices → IsIndexList (shape_of dims) (set indices axis index)
set_within [] indices axis index h below i = absurd (omega (arith, h))
set_within (dim ∷ dims) [] axis index h below i = absurd i
set_within (dim ∷ dims) (x ∷ indices) zero index h below i = (below, i.1)
set_within (dim ∷ dims) (x ∷ indices) (suc axis) index h below i = (i.0, set_within dims indices axis index (omega (arith, h)) below i.1)

put_within : (dims : List (ℕ × ℤ × ℤ)) (axes indices made : List ℕ) → AllByRecursion (λ axis. axis < length dims) axes → IsIndexList (shape_of (dims_in_order dims axes)) indices → IsIndexList (shape_of dims) made
    → IsIndexList (shape_of dims) (put_at_axes axes indices made)
put_within dims [] [] made below i m = m
put_within dims [] (index ∷ indices) made below i m = absurd i
put_within dims (axis ∷ axes) [] made below i m = absurd i
put_within dims (axis ∷ axes) (index ∷ indices) made below i m =
    set_within dims (put_at_axes axes indices made) axis index below.0 i.0 (put_within dims axes indices made below.1 i.1 m)

length_put : (axes indices made : List ℕ) → length (put_at_axes axes indices made) ≡ length made
length_put [] indices made = refl
length_put (axis ∷ axes) [] made = refl
length_put (axis ∷ axes) (index ∷ indices) made = length-set (put_at_axes axes indices made) axis index ∙ length_put axes indices made

-- No index is put at an axis that the list doesn't have.
put_elsewhere : (axes indices made : List ℕ) (axis : ℕ) → AllByRecursion (λ other. eqb axis other ≡ false) axes → get_or (put_at_axes axes indices made) axis 0 ≡ get_or made axis 0
put_elsewhere [] indices made axis h = refl
put_elsewhere (other ∷ axes) [] made axis h = refl
put_elsewhere (other ∷ axes) (index ∷ indices) made axis h =
    get_or-set_other (put_at_axes axes indices made) other axis index 0 (not_equal axis other h.0) ∙ put_elsewhere axes indices made axis h.1

zero_at : (xs : List ℕ) (axis : ℕ) → ◌≡◌ {A = ℕ} (get_or (map (λ _. 0) xs) axis 0) 0
zero_at [] axis = refl
zero_at (x ∷ xs) zero = refl
zero_at (x ∷ xs) (suc axis) = zero_at xs axis

plus_none : (a : ℤ) → pos 0 +ℤ a ≡ a
plus_none a = omega (arith, ints)

swap_terms : (a b c : ℤ) → b +ℤ (a +ℤ c) ≡ a +ℤ (b +ℤ c)
swap_terms a b c = omega (arith, ints)

set_offset : (dims : List (ℕ × ℤ × ℤ)) (indices : List ℕ) (axis index : ℕ) → axis < length dims → length indices ≡ length dims → get_or indices axis 0 ≡ 0
    → offset_of (set indices axis index) dims ≡ pos index *ℤ (dim_at dims axis).1 +ℤ offset_of indices dims
set_offset [] indices axis index h e z = absurd (omega (arith, h))
set_offset (dim ∷ dims) [] axis index h e z = absurd (omega (arith, e))
set_offset (dim ∷ dims) (x ∷ indices) zero index h e z =
    ap (λ w. pos index *ℤ dim.1 +ℤ w) (sym (ap (λ k. pos k *ℤ dim.1 +ℤ offset_of indices dims) z ∙ ap (λ w. w +ℤ offset_of indices dims) (zero-*ℤ dim.1) ∙ plus_none (offset_of indices dims)))
set_offset (dim ∷ dims) (x ∷ indices) (suc axis) index h e z =
    ap (λ w. pos x *ℤ dim.1 +ℤ w) (set_offset dims indices axis index (omega (arith, h)) (omega (arith, e)) z)
    ∙ swap_terms (pos index *ℤ (dim_at dims axis).1) (pos x *ℤ dim.1) (offset_of indices dims)

none_offset : (dims : List (ℕ × ℤ × ℤ)) (xs : List ℕ) → offset_of (map (λ _. 0) xs) dims ≡ pos 0
none_offset [] [] = refl
none_offset [] (x ∷ xs) = refl
none_offset (dim ∷ dims) [] = refl
none_offset (dim ∷ dims) (x ∷ xs) = ap₂ (λ a b. a +ℤ b) (zero-*ℤ dim.1) (none_offset dims xs)

put_offset : (dims : List (ℕ × ℤ × ℤ)) (axes indices xs : List ℕ) → length xs ≡ length dims → AllByRecursion (λ axis. axis < length dims) axes → IsDistinct eqb axes → IsIndexList (shape_of (dims_in_order dims axes)) indices
    → offset_of (put_at_axes axes indices (map (λ _. 0) xs)) dims ≡ offset_of indices (dims_in_order dims axes)
put_offset dims [] [] xs e below apart i = none_offset dims xs
put_offset dims [] (index ∷ indices) xs e below apart i = absurd i
put_offset dims (axis ∷ axes) [] xs e below apart i = absurd i
put_offset dims (axis ∷ axes) (index ∷ indices) xs e below apart i =
    let put : List ℕ = put_at_axes axes indices (map (λ _. 0) xs) in
    set_offset dims put axis index below.0 (length_put axes indices (map (λ _. 0) xs) ∙ length-map xs (λ _. 0) ∙ e)
    (put_elsewhere axes indices (map (λ _. 0) xs) axis (IsDistinct-head eqb axis axes apart) ∙ zero_at xs axis)
    ∙ ap (λ w. pos index *ℤ (dim_at dims axis).1 +ℤ w) (put_offset dims axes indices xs e below.1 (IsDistinct-tail eqb axis axes apart) i.1)

length_axes : (dims : List (ℕ × ℤ × ℤ)) (axes : List ℕ) → AreAxes (length dims) axes → length axes ≡ length dims
length_axes dims axes p = length_permutation (range_with_len 0 (length dims)) axes p ∙ length-range_with_len 0 (length dims)

-- ---- a single dimension without an entry, or no such dimension

-- No entry is 0, or there is at most one dimension.
abbrev pub CanBeOrdered : List (ℕ × ℤ × ℤ) → Type 0
CanBeOrdered dims = (has_zero (shape_of dims) && nat_lt 1 (length dims)) ≡ false

not_many : (n : ℕ) → nat_lt 1 n ≡ false → n ≤ 1
not_many n e = ltb-false 1 n e

few_where_zero : (dims : List (ℕ × ℤ × ℤ)) → CanBeOrdered dims → has_zero (shape_of dims) ≡ true → length dims ≤ 1
few_where_zero dims can e = not_many (length dims) (sym (ap (λ b. b && nat_lt 1 (length dims)) e) ∙ can)

pub same_where_few : (dims : List (ℕ × ℤ × ℤ)) (axes : List ℕ) → AreAxes (length dims) axes → length dims ≤ 1 → dims_in_order dims axes ≡ dims
same_where_few dims axes p few = same dims axes (length_axes dims axes p) (recursion_from_All (λ axis. axis < length dims) axes (axes_below (length dims) axes p)) few
  where
    same : (dims : List (ℕ × ℤ × ℤ)) (axes : List ℕ) → length axes ≡ length dims → AllByRecursion (λ axis. axis < length dims) axes → length dims ≤ 1 → dims_in_order dims axes ≡ dims
    same [] [] e below few = refl
    same [] (axis ∷ axes) e below few = absurd (omega (arith, e))
    same (dim ∷ []) [] e below few = absurd (omega (arith, e))
    same (dim ∷ []) (zero ∷ []) e below few = refl
    same (dim ∷ []) (suc axis ∷ []) e below few = absurd (let low = below.0 in omega (arith, low))
    same (dim ∷ []) (axis ∷ other ∷ axes) e below few = absurd (omega (arith, e))
    same (dim ∷ next ∷ dims) axes e below few = absurd (omega (arith, few))

-- ---- a valid descriptor

product_set : (xs : List ℕ) (i y d : ℕ) → i < length xs → product (set xs i y) * get_or xs i d ≡ product xs * y
product_set [] i y d h = absurd (omega (arith, h))
product_set (x ∷ xs) zero y d h = moved y (product xs) x
  where
    moved : (a b c : ℕ) → a * b * c ≡ c * b * a
    moved a b c = omega arith
product_set (x ∷ xs) (suc i) y d h =
    mul_assoc x (product (set xs i y)) (get_or xs i d) ∙ ap (λ (n : ℕ). x * n) (product_set xs i y d (omega (arith, h))) ∙ sym (mul_assoc x (product xs) y)

cancel : (a b c : ℕ) → a * c ≡ b * c → 0 < c → a ≡ b
cancel a b c e h = sym (mul-div_cancel a h) ∙ ap (λ n. n / c) e ∙ mul-div_cancel b h

product_swap : (l : List ℕ) (i j : ℕ) → i < length l → j < length l → All (λ n. 0 < n) l → product (swap l i j) ≡ product l
product_swap l i j p q all =
    let w : List ℕ = set l i (get_or l j 0) in
    let there : get_or w j 0 ≡ get_or l j 0 = read_back l i j p in
    let long : length w ≡ length l = length-set l i (get_or l j 0) in
    ap product (sym (swap_is l i j 0 p q))
    ∙ cancel (product (set w j (get_or l i 0))) (product l) (get_or l j 0)
    (ap (λ n. product (set w j (get_or l i 0)) * n) (sym there) ∙ product_set w j (get_or l i 0) 0 (omega (arith, long, q)) ∙ product_set l i (get_or l j 0) 0 p) (all j 0 q)
  where
    by_test : (l : List ℕ) (i j : ℕ) (b : Bool) → eqb j i ≡ b → i < length l → get_or (set l i (get_or l j 0)) j 0 ≡ get_or l j 0
    by_test l i j true e p = let same : j ≡ i = eqb-true j i e in ap (λ n. get_or (set l i (get_or l j 0)) n 0) same ∙ get_or-set_same l i (get_or l j 0) 0 p
    by_test l i j false e p = get_or-set_other l i j (get_or l j 0) 0 (not_equal j i e)

    read_back : (l : List ℕ) (i j : ℕ) → i < length l → get_or (set l i (get_or l j 0)) j 0 ≡ get_or l j 0
    read_back l i j p = by_test l i j (eqb j i) refl p

pub product_permutation : (xs ys : List ℕ) → All (λ n. 0 < n) xs → IsPermutation xs ys → product ys ≡ product xs
product_permutation xs ys all p =
    (IsPermutation-keeps xs (λ l. All (λ n. 0 < n) l × (product l ≡ product xs)) (all, refl)
    (λ l i j h g k. (swap_all l i j h g k.0, product_swap l i j h g k.0 ∙ k.1)) ys p).1
  where
    swap_all : (l : List ℕ) (i j : ℕ) → i < length l → j < length l → All (λ n. 0 < n) l → All (λ n. 0 < n) (swap l i j)
    swap_all l i j h g k = All-permutation (λ n. 0 < n) l (swap l i j) (IsPermutation-swap l (swap l i j) i j h g refl) k

extent_some : (dims : List (ℕ × ℤ × ℤ)) (axes : List ℕ) → AreAxes (length dims) axes → has_zero (shape_of dims) ≡ false → product (nonzero_entries (shape_of (dims_in_order dims axes))) ≡ product (nonzero_entries (shape_of dims))
extent_some dims axes p e =
    let perm : IsPermutation dims (dims_in_order dims axes) = permuted dims axes p in
    let some : All (λ (dim : ℕ × ℤ × ℤ). 0 < dim.0) dims = All-from_recursion (λ (dim : ℕ × ℤ × ℤ). 0 < dim.0) dims (entries_some dims e) in
    let made : AllByRecursion (λ (dim : ℕ × ℤ × ℤ). 0 < dim.0) (dims_in_order dims axes) = recursion_from_All (λ (dim : ℕ × ℤ × ℤ). 0 < dim.0) (dims_in_order dims axes) (All-permutation (λ (dim : ℕ × ℤ × ℤ). 0 < dim.0) dims (dims_in_order dims axes) perm some) in
    ap product (nonzero_is (shape_of (dims_in_order dims axes)) (some_shape (dims_in_order dims axes) made))
    ∙ product_permutation (shape_of dims) (shape_of (dims_in_order dims axes)) (All-from_recursion (λ n. 0 < n) (shape_of dims) (some_shape dims (entries_some dims e))) (IsPermutation-map (λ (dim : ℕ × ℤ × ℤ). dim.0) dims (dims_in_order dims axes) perm)
    ∙ sym (ap product (nonzero_is (shape_of dims) (some_shape dims (entries_some dims e))))

-- There are two cases: no entry is 0, or there is at most one dimension.
by_zero : {A : Type 0} (dims : List (ℕ × ℤ × ℤ)) → CanBeOrdered dims → (has_zero (shape_of dims) ≡ false → A) → (length dims ≤ 1 → A) → A
by_zero {A} dims can some few = test (has_zero (shape_of dims)) refl
  where
    test : (b : Bool) → has_zero (shape_of dims) ≡ b → A
    test true e = few (few_where_zero dims can e)
    test false e = some e

pub sound_order : (d : Descriptor) (start room : ℕ) (axes : List ℕ) → IsValid d start room → AreAxes (length d.dims) axes → CanBeOrdered d.dims → AreSound d.itemsize (dims_in_order d.dims axes)
sound_order d start room axes valid p can =
    let made : List (ℕ × ℤ × ℤ) = dims_in_order d.dims axes in
    let perm : IsPermutation d.dims made = permuted d.dims axes p in
    record {
      few = (let long : length made ≡ length d.dims = length_permutation d.dims made perm in let few = valid.few_dimensions in omega (arith, long, few));
      strides = All-permutation (λ (dim : ℕ × ℤ × ℤ). dim.1 ≢ pos 0) d.dims made perm valid.strides;
      suboffsets = All-permutation (λ (dim : ℕ × ℤ × ℤ). dim.2 ≡ pos 0) d.dims made perm valid.suboffsets;
      later_entries = by_zero d.dims can
          (λ e. All-from_recursion (λ (dim : ℕ × ℤ × ℤ). 0 < dim.0) (drop 1 made) (dims_after_first (λ (dim : ℕ × ℤ × ℤ). 0 < dim.0) made
          (recursion_from_All (λ (dim : ℕ × ℤ × ℤ). 0 < dim.0) made (All-permutation (λ (dim : ℕ × ℤ × ℤ). 0 < dim.0) d.dims made perm (All-from_recursion (λ (dim : ℕ × ℤ × ℤ). 0 < dim.0) d.dims (entries_some d.dims e))))))
          (λ few. subst (λ (ds : List (ℕ × ℤ × ℤ)). All (λ (dim : ℕ × ℤ × ℤ). 0 < dim.0) (drop 1 ds)) (sym (same_where_few d.dims axes p few)) valid.later_entries);
      extent_fits = by_zero d.dims can
          (λ e. subst (λ n. d.itemsize * n < 2 ^ 63) (sym (extent_some d.dims axes p e)) valid.extent_fits)
          (λ few. subst (λ (ds : List (ℕ × ℤ × ℤ)). d.itemsize * product (nonzero_entries (shape_of ds)) < 2 ^ 63) (sym (same_where_few d.dims axes p few)) valid.extent_fits);
    }

pub remap_order : (dims : List (ℕ × ℤ × ℤ)) (start : ℕ) (axes : List ℕ) → AreAxes (length dims) axes → CanBeOrdered dims → Remaps dims start (dims_in_order dims axes) start (indices_by_axis axes)
remap_order dims start axes p can =
    let below : AllByRecursion (λ axis. axis < length dims) axes = recursion_from_All (λ axis. axis < length dims) axes (axes_below (length dims) axes p) in
    let long : length axes ≡ length dims = length_axes dims axes p in
    record {
      within = λ indices i.
          put_within dims axes indices (map (λ _. 0) axes) below i (zeros_within dims axes long (nonzero_of indices i));
      same = λ indices i. ap (λ z. pos start +ℤ z) (sym (put_offset dims axes indices axes long below (axes_distinct (length dims) axes p) i));
    }
  where
    nonzero_from : (ds : List (ℕ × ℤ × ℤ)) (indices : List ℕ) → IsIndexList (shape_of ds) indices → AreNonzero ds
    nonzero_from [] indices i = tt
    nonzero_from (d ∷ ds) [] i = absurd i
    nonzero_from (d ∷ ds) (x ∷ indices) i = (let low = i.0 in omega (arith, low), nonzero_from ds indices i.1)

    nonzero_of : (indices : List ℕ) → IsIndexList (shape_of (dims_in_order dims axes)) indices → AreNonzero dims
    nonzero_of indices i =
        by_zero dims can (λ e. nonzero_all dims e)
        (λ few. nonzero_from dims indices (subst (λ (ds : List (ℕ × ℤ × ℤ)). IsIndexList (shape_of ds) indices) (same_where_few dims axes p few) i))

-- ---- what an order answers

pub valid_order : (d : Descriptor) (axes : List ℕ) (start room : ℕ) → AreAxes (length d.dims) axes → CanBeOrdered d.dims → IsValid d start room → IsValid (in_dims d (dims_in_order d.dims axes)) start room
valid_order d axes start room p can valid =
    valid_remap d start (dims_in_order d.dims axes) start (indices_by_axis axes) room (remap_order d.dims start axes p can) (sound_order d start room axes valid p can) valid

order_is : (view : Layout) (shape : List ℕ) (strides : List ℤ) (axes : List ℕ) → shape ≡ view.shape → strides ≡ view.strides
    → view_by view (map (λ axis. get_or shape axis 0) axes) (map (λ axis. get_or strides axis (pos 0)) axes) (indices_by_axis axes) ≡ view_in_order view axes
order_is view shape strides axes e f =
    ap₂ (λ (ns : List ℕ) (ss : List ℤ). view_by view (map (λ axis. get_or ns axis 0) axes) (map (λ axis. get_or ss axis (pos 0)) axes) (indices_by_axis axes)) e f

pub stands_order : (d : Descriptor) (axes : List ℕ) (start : ℕ) (view : Layout) → AreAxes (length d.dims) axes → CanBeOrdered d.dims → Stands d start view → Stands (in_dims d (dims_in_order d.dims axes)) start (view_in_order view axes)
stands_order d axes start view p can stands =
    subst (λ (w : Layout). Stands (in_dims d (dims_in_order d.dims axes)) start w) (order_is view (shape_of d.dims) (strides_of d.dims) axes stands.shape stands.strides)
    (stands_remap d start (dims_in_order d.dims axes) start (indices_by_axis axes) view (map (λ axis. get_or (shape_of d.dims) axis 0) axes) (map (λ axis. get_or (strides_of d.dims) axis (pos 0)) axes)
    (remap_order d.dims start axes p can) stands (shape_in_order d.dims axes) (strides_in_order d.dims axes))

-- ---- the reversed order

pub dims_reversed : (dims : List (ℕ × ℤ × ℤ)) → dims_in_order dims (reversed_axes (length dims)) ≡ reverse dims
dims_reversed dims = map_of_reverse (dim_at dims) (range_with_len 0 (length dims)) ∙ ap reverse (all_entries dims)

pub axes_reversed : (n : ℕ) → AreAxes n (reversed_axes n)
axes_reversed n = IsPermutation-reverse (range_with_len 0 n)

pub stands_transposed : (d : Descriptor) (start : ℕ) (view : Layout) → CanBeOrdered d.dims → Stands d start view → Stands (in_dims d (reverse d.dims)) start (transposition_of view)
stands_transposed d start view can stands =
    let count : length d.dims ≡ length view.shape = sym (length-map d.dims (λ dim. dim.0)) ∙ ap length stands.shape in
    subst (λ n. Stands (in_dims d (reverse d.dims)) start (view_in_order view (reversed_axes n))) count
    (subst (λ (ds : List (ℕ × ℤ × ℤ)). Stands (in_dims d ds) start (view_in_order view (reversed_axes (length d.dims)))) (dims_reversed d.dims)
    (stands_order d (reversed_axes (length d.dims)) start view (axes_reversed (length d.dims)) can stands))

pub valid_transposed : (d : Descriptor) (start room : ℕ) → CanBeOrdered d.dims → IsValid d start room → IsValid (in_dims d (reverse d.dims)) start room
valid_transposed d start room can valid =
    subst (λ (ds : List (ℕ × ℤ × ℤ)). IsValid (in_dims d ds) start room) (dims_reversed d.dims) (valid_order d (reversed_axes (length d.dims)) start room (axes_reversed (length d.dims)) can valid)

-- Row-major strides, from the last dimension to the first.
use Rattle.std.proofs.Common.{◌≡◌, ℕ, zero, suc, ◌-◌, ◌*◌, ◌^◌, ◌<◌, ◌≤◌, ℤ, pos, List, [], ◌∷◌, length, drop, drop-cons, refl, ap, sym, ◌∙◌, subst, arith, le-mul_of_pos_right, le_refl, mul_assoc, mul_comm, mul-le-mul_left, lt_of_le_of_lt, ◌↔◌, All, mul-zero, zero-mul, pos_of_ne-zero, mul-pos, zero-lt-suc}
use Rattle.std.proofs.lemmas.List.Elements.{All-nil, All-cons}
use Rattle.pybuf_desc.specs.Facts.{length-places}
use Rattle.pybuf_desc.specs.Layouts.{product}
use Rattle.pybuf_desc.specs.Descriptor.{Descriptor, shape_of}
use Rattle.pybuf_desc.specs.Places.{places}
use Rattle.pybuf_desc.specs.Valid.{IsPlaceable}
use Rattle.pybuf_desc.specs.RowMajor.{IsContiguous, AreRowMajorStrides}
use Rattle.pybuf_desc.proofs.Moves.{dim_at}
use Rattle.pybuf_desc.proofs.Products.{AreNonzero, AreNonzero-from_All, product-extent}
use Rattle.pybuf_desc.proofs.Runs.{places_from_strides, strides_from_places, contiguous_from_run, run_from_contiguous}

pub product-drop-le : (k : ℕ) (dims : List (ℕ × ℤ × ℤ)) → AreNonzero dims → product (shape_of (drop k dims)) ≤ product (shape_of dims)
product-drop-le zero dims some = le_refl (product (shape_of dims))
product-drop-le (suc k) [] some = le_refl 1
product-drop-le (suc k) (dim ∷ dims) some =
    let one : product (shape_of dims) ≤ product (shape_of dims) * dim.0 = le-mul_of_pos_right (product (shape_of dims)) some.0 in
    let two : product (shape_of (drop k dims)) ≤ product (shape_of dims) = product-drop-le k dims some.1 in
    omega (arith, one, two)

pub size_below : (size k : ℕ) (dims : List (ℕ × ℤ × ℤ)) → All (λ dim. 0 < dim.0) dims → size * product (shape_of dims) < 2 ^ 63 → size * product (shape_of (drop k dims)) < 2 ^ 63
size_below size k dims some h =
    lt_of_le_of_lt (mul-le-mul_left size (product-drop-le k dims (AreNonzero-from_All dims some))) h

pub drop_before : (dims : List (ℕ × ℤ × ℤ)) (k : ℕ) → 0 < k → k ≤ length dims → drop (k - 1) dims ≡ dim_at dims (k - 1) ∷ drop k dims
drop_before dims zero h g = absurd (omega arith)
drop_before dims (suc k) h g =
    subst (λ j. drop j dims ≡ dim_at dims j ∷ drop (suc k) dims) (let e : k ≡ suc k - 1 = omega arith in e) (drop-cons dims k (0, pos 0, pos 0) g)

pub next_size : (size k : ℕ) (dims : List (ℕ × ℤ × ℤ)) → 0 < k → k ≤ length dims → size * product (shape_of (drop k dims)) * (dim_at dims (k - 1)).0 ≡ size * product (shape_of (drop (k - 1) dims))
next_size size k dims h g =
    mul_assoc size (product (shape_of (drop k dims))) (dim_at dims (k - 1)).0
    ∙ ap (λ (n : ℕ). size * n) (mul_comm (product (shape_of (drop k dims))) (dim_at dims (k - 1)).0 ∙ sym (ap (λ ds. product (shape_of ds)) (drop_before dims k h g)))

pub strides_step : (size k : ℕ) (dims : List (ℕ × ℤ × ℤ)) → 0 < k → k ≤ length dims → (1 < (dim_at dims (k - 1)).0 → (dim_at dims (k - 1)).1 ≡ pos (size * product (shape_of (drop k dims)))) → AreRowMajorStrides size (drop k dims) → AreRowMajorStrides size (drop (k - 1) dims)
strides_step size k dims h g fit later = subst (AreRowMajorStrides size) (sym (drop_before dims k h g)) (fit, later)

pub strides-drop : (size k : ℕ) (dims : List (ℕ × ℤ × ℤ)) → AreRowMajorStrides size dims → AreRowMajorStrides size (drop k dims)
strides-drop size zero dims h = h
strides-drop size (suc k) [] h = tt
strides-drop size (suc k) (dim ∷ dims) h = strides-drop size k dims h.1

pub strides_fail : (size k : ℕ) (dims : List (ℕ × ℤ × ℤ)) → 0 < k → k ≤ length dims → 1 < (dim_at dims (k - 1)).0 → ((dim_at dims (k - 1)).1 ≡ pos (size * product (shape_of (drop k dims))) → ⊥) → AreRowMajorStrides size dims → ⊥
strides_fail size k dims h g more unfit fit =
    unfit ((subst (AreRowMajorStrides size) (drop_before dims k h g) (strides-drop size (k - 1) dims fit)).0 more)

-- ---- what `is_contiguous` says

pub no_place : (size : ℕ) (start : ℤ) (xs : List ℤ) → length xs ≡ 0 → IsContiguous size start xs
no_place size start [] e = refl
no_place size start (x ∷ xs) e = absurd (let wrong : suc (length xs) ≡ 0 = e in omega arith)

pub contiguous_without_items : (size : ℕ) (dims : List (ℕ × ℤ × ℤ)) (start : ℤ) → product (shape_of dims) ≡ 0 → IsContiguous size start (places dims start)
contiguous_without_items size dims start e = no_place size start (places dims start) (length-places dims start ∙ e)

pub some_entries : (dims : List (ℕ × ℤ × ℤ)) → 0 < product (shape_of dims) → AreNonzero dims
some_entries [] h = tt
some_entries (dim ∷ dims) h = (
  pos_of_ne-zero (λ (e : dim.0 ≡ 0). let z : dim.0 * product (shape_of dims) ≡ 0 = ap (λ (n : ℕ). n * product (shape_of dims)) e ∙ zero-mul (product (shape_of dims)) in omega (arith, h, z)),
  some_entries dims (pos_of_ne-zero (λ (e : product (shape_of dims) ≡ 0). let z : dim.0 * product (shape_of dims) ≡ 0 = ap (λ (n : ℕ). dim.0 * n) e ∙ mul-zero dim.0 in omega (arith, h, z))),
)

pub All-from_AreNonzero : (dims : List (ℕ × ℤ × ℤ)) → AreNonzero dims → All (λ dim. 0 < dim.0) dims
All-from_AreNonzero [] h = All-nil (λ d. 0 < d.0)
All-from_AreNonzero (dim ∷ dims) h = All-cons (λ d. 0 < d.0) dim dims h.0 (All-from_AreNonzero dims h.1)

-- if there are items, their places lie without a gap exactly if the strides are row-major
pub contiguous_by_strides : (size : ℕ) (dims : List (ℕ × ℤ × ℤ)) (start : ℤ) → AreNonzero dims → AreRowMajorStrides size dims ↔ IsContiguous size start (places dims start)
contiguous_by_strides size dims start some = (
  λ fit. contiguous_from_run size dims start (places_from_strides size dims fit start),
  λ h. strides_from_places size dims some start (run_from_contiguous size dims start h),
)

pub some_product : (size n len : ℕ) → size * n ≡ len → 0 < len → 0 < n
some_product size zero len e h = absurd (let z : size * 0 ≡ 0 = mul-zero size in omega (arith, e, z, h))
some_product size (suc n) len e h = omega arith

pub no_product : (size n len : ℕ) → size * n ≡ len → 0 < size → len ≡ 0 → n ≡ 0
no_product size zero len e h z = refl
no_product size (suc n) len e h z = absurd (let more : 0 < size * suc n = mul-pos h (zero-lt-suc n) in omega (arith, more, e, z))

pub entries_of : (d : Descriptor) → IsPlaceable d → (d.len ≡ 0 → ⊥) → AreNonzero d.dims
entries_of d can some = some_entries d.dims (some_product d.itemsize (product (shape_of d.dims)) d.len can.placed.valid.len (pos_of_ne-zero some))

pub bytes_fit : (d : Descriptor) → IsPlaceable d → AreNonzero d.dims → d.itemsize * product (shape_of d.dims) < 2 ^ 63
bytes_fit d can some = subst (λ n. d.itemsize * n < 2 ^ 63) (sym (product-extent d.dims some)) can.placed.valid.extent_fits

pub no_item : (d : Descriptor) → IsPlaceable d → d.len ≡ 0 → product (shape_of d.dims) ≡ 0
no_item d can e = no_product d.itemsize (product (shape_of d.dims)) d.len can.placed.valid.len can.placed.valid.some_size e

pub one_of : (n : ℕ) → 0 < n → (1 < n → ⊥) → 1 ≡ n
one_of zero more few = absurd (omega (arith, more))
one_of (suc zero) more few = refl
one_of (suc (suc n)) more few = absurd (few (omega arith))

-- the stride of a dimension with one entry doesn't matter
pub entry_alone : (size k : ℕ) (dims : List (ℕ × ℤ × ℤ)) → 0 < k → k ≤ length dims → All (λ dim. 0 < dim.0) dims → (1 < (dim_at dims (k - 1)).0 → ⊥)
    → (size * product (shape_of (drop k dims)) ≡ size * product (shape_of (drop (k - 1) dims))) × (AreRowMajorStrides size (drop k dims) → AreRowMajorStrides size (drop (k - 1) dims))
entry_alone size k dims h g some few =
    let below : k - 1 < length dims = omega (arith, h, g) in
    let more : 0 < (dim_at dims (k - 1)).0 = some (k - 1) (0, pos 0, pos 0) below in
    let whole : ℕ = size * product (shape_of (drop k dims)) in
    let one : 1 ≡ (dim_at dims (k - 1)).0 = one_of (dim_at dims (k - 1)).0 more few in
    let once : whole ≡ whole * 1 = omega arith in
    (once ∙ ap (λ (n : ℕ). whole * n) one ∙ next_size size k dims h g, strides_step size k dims h g (λ two. absurd (few two)))

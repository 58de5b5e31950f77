-- The tail of a shape and its strides is packed, and no longer tail is.
use Rattle.std.proofs.Common.{◌≡◌, ℕ, zero, suc, ◌+◌, ◌-◌, ◌*◌, ◌<◌, ◌≤◌, ℤ, pos, Bool, true, false, cond, ◌&&◌, ◌||◌, eqb, leb, List, [], ◌∷◌, length, drop, refl, ap, sym, ◌∙◌, subst, true≢false, arith}
use Rattle.std.specs.Ordering.{int_eq}
use Rattle.std.proofs.lemmas.Bool.{eqb-true}
use Rattle.std.proofs.lemmas.Bool.Decides.{Decides-int_eq}
use Rattle.std.proofs.lemmas.List.{drop-drop, drop-map, length-map}
use Rattle.pybuf_desc.specs.Facts.{as_many}
use Rattle.pybuf_desc.specs.Layouts.{product}
use Rattle.pybuf_desc.specs.Strides.{AreRowMajor}
use Rattle.pybuf_desc.specs.Descriptor.{shape_of, strides_of}
use Rattle.pybuf_desc.specs.RowMajor.{AreRowMajorStrides}
use Rattle.pybuf_desc.specs.Tails.{tail_of_strides}
use Rattle.pybuf_desc.specs.Segments.{joined_dims}
use Rattle.pybuf_desc.specs.Laws.{IsTail, TailsAreGreatest}
use Rattle.pybuf_desc.proofs.Strides.{strides-drop}
use Rattle.pybuf_desc.proofs.DescribedLayouts.{to_layout, from_layout}

-- ---- one dimension's test

more_than_one : (n : ℕ) → leb (suc (suc n)) 1 ≡ false
more_than_one n = grind arith

packed_so : (n : ℕ) (stride gap : ℤ) → leb n 1 || int_eq stride gap ≡ true → 1 < n → stride ≡ gap
packed_so zero stride gap e h = absurd (omega (arith, h))
packed_so (suc zero) stride gap e h = absurd (omega (arith, h))
packed_so (suc (suc n)) stride gap e h = (Decides-int_eq stride gap).0 (ap (λ (b : Bool). b || int_eq stride gap) (sym (more_than_one n)) ∙ e)

so_packed : (n : ℕ) (stride gap : ℤ) → (1 < n → stride ≡ gap) → leb n 1 || int_eq stride gap ≡ true
so_packed zero stride gap h = refl
so_packed (suc zero) stride gap h = refl
so_packed (suc (suc n)) stride gap h = ap (λ (b : Bool). b || int_eq stride gap) (more_than_one n) ∙ (Decides-int_eq stride gap).1 (h (omega arith))

same_test : (a b : ℕ) → a ≡ b → eqb a b ≡ true
same_test a b e = grind (arith, e)

-- ---- one more dimension

abbrev pub ArePacked : ℕ → List ℕ → List ℤ → ℕ → Type 0
ArePacked size shape strides k = AreRowMajor size (drop k shape) (drop k strides)

whole_rest : (size : ℕ) (shape : List ℕ) (strides : List ℤ) (t : ℕ) → IsTail size shape strides t → t ≡ length shape → AreRowMajor size shape strides
whole_rest size shape strides t tail e =
    let none : length shape - t ≡ 0 = omega (arith, e) in subst (ArePacked size shape strides) none tail.packed

greatest_so_far : (size n : ℕ) (shape : List ℕ) (stride : ℤ) (strides : List ℤ) (t k more : ℕ) → suc (length shape) - more ≡ k → more ≤ suc (length shape) → IsTail size shape strides t
    → (AreRowMajor size (n ∷ shape) (stride ∷ strides) → ⊥) → ArePacked size (n ∷ shape) (stride ∷ strides) k → more ≤ t
greatest_so_far size n shape stride strides t zero more e few tail unfit h = absurd (unfit h)
greatest_so_far size n shape stride strides t (suc k) more e few tail unfit h =
    let rest : k ≡ length shape - more = omega (arith, e) in
    let fewer : more ≤ length shape = omega (arith, e) in
    tail.greatest more fewer (subst (ArePacked size shape strides) rest h)

no_longer : (size n : ℕ) (shape : List ℕ) (stride : ℤ) (strides : List ℤ) (t : ℕ) → IsTail size shape strides t → (AreRowMajor size (n ∷ shape) (stride ∷ strides) → ⊥)
    → IsTail size (n ∷ shape) (stride ∷ strides) t
no_longer size n shape stride strides t tail unfit =
    let few : t ≤ length shape = tail.few in
    let long : length (n ∷ shape) ≡ suc (length shape) = refl in
    let later : suc (length shape - t) ≡ length (n ∷ shape) - t = omega (arith, few, long) in
    record {
      few = omega (arith, few, long);
      packed = subst (ArePacked size (n ∷ shape) (stride ∷ strides)) later tail.packed;
      greatest = λ more fewer h. greatest_so_far size n shape stride strides t (length (n ∷ shape) - more) more (omega (arith, long)) (omega (arith, fewer, long)) tail unfit h;
    }

step : (size n : ℕ) (shape : List ℕ) (stride : ℤ) (strides : List ℤ) (t : ℕ) (whole packed : Bool) → IsTail size shape strides t
    → eqb t (length shape) ≡ whole → leb n 1 || int_eq stride (pos (size * product shape)) ≡ packed
    → IsTail size (n ∷ shape) (stride ∷ strides) (cond (whole && packed) (suc (length shape)) t)
step size n shape stride strides t true true tail e f =
    let long : length (n ∷ shape) ≡ suc (length shape) = refl in
    let none : 0 ≡ length (n ∷ shape) - suc (length shape) = omega (arith, long) in
    record {
      few = omega (arith, long);
      packed = subst (ArePacked size (n ∷ shape) (stride ∷ strides)) none (packed_so n stride (pos (size * product shape)) f, whole_rest size shape strides t tail (eqb-true t (length shape) e));
      greatest = λ more fewer h. omega (arith, fewer, long);
    }
step size n shape stride strides t true false tail e f =
    no_longer size n shape stride strides t tail (λ h. true≢false (sym (so_packed n stride (pos (size * product shape)) h.0) ∙ f))
step size n shape stride strides t false packed tail e f =
    no_longer size n shape stride strides t tail
    (λ h.
    let here : 0 ≡ length shape - length shape = omega arith in
    let long : length shape ≤ t = tail.greatest (length shape) (omega arith) (subst (ArePacked size shape strides) here h.1) in
    let few : t ≤ length shape = tail.few in
    true≢false (sym (same_test t (length shape) (omega (arith, long, few))) ∙ e))

pub tails_are_greatest : TailsAreGreatest
tails_are_greatest size [] strides e = record { few = omega arith; packed = tt; greatest = λ more fewer h. fewer }
tails_are_greatest size (n ∷ shape) [] e = absurd (let wrong : suc (length shape) ≡ 0 = e in omega (arith, wrong))
tails_are_greatest size (n ∷ shape) (stride ∷ strides) e =
    step size n shape stride strides (tail_of_strides size shape strides) (eqb (tail_of_strides size shape strides) (length shape)) (leb n 1 || int_eq stride (pos (size * product shape)))
    (tails_are_greatest size shape strides (let less : suc (length shape) ≡ suc (length strides) = e in omega (arith, less))) refl refl

-- ---- the tail of dimensions

long_strides : (dims : List (ℕ × ℤ × ℤ)) → length (strides_of dims) ≡ length dims
long_strides dims = length-map dims (λ (dim : ℕ × ℤ × ℤ). dim.1)

tail_is : (size : ℕ) (dims : List (ℕ × ℤ × ℤ)) → IsTail size (shape_of dims) (strides_of dims) (tail_of_strides size (shape_of dims) (strides_of dims))
tail_is size dims = tails_are_greatest size (shape_of dims) (strides_of dims) (as_many dims ∙ sym (long_strides dims))

to_lists : (size k : ℕ) (dims : List (ℕ × ℤ × ℤ)) → AreRowMajorStrides size (drop k dims) → ArePacked size (shape_of dims) (strides_of dims) k
to_lists size k dims h =
    subst (λ (shape : List ℕ). AreRowMajor size shape (drop k (strides_of dims))) (sym (drop-map (λ (dim : ℕ × ℤ × ℤ). dim.0) k dims))
    (subst (λ (strides : List ℤ). AreRowMajor size (shape_of (drop k dims)) strides) (sym (drop-map (λ (dim : ℕ × ℤ × ℤ). dim.1) k dims)) (to_layout size (drop k dims) h))

from_lists : (size k : ℕ) (dims : List (ℕ × ℤ × ℤ)) → ArePacked size (shape_of dims) (strides_of dims) k → AreRowMajorStrides size (drop k dims)
from_lists size k dims h =
    from_layout size (drop k dims)
    (subst (λ (shape : List ℕ). AreRowMajor size shape (strides_of (drop k dims))) (drop-map (λ (dim : ℕ × ℤ × ℤ). dim.0) k dims)
    (subst (λ (strides : List ℤ). AreRowMajor size (drop k (shape_of dims)) strides) (drop-map (λ (dim : ℕ × ℤ × ℤ). dim.1) k dims) h))

fewer_packed : (size : ℕ) (dims : List (ℕ × ℤ × ℤ)) (k more : ℕ) → k ≤ more → AreRowMajorStrides size (drop k dims) → AreRowMajorStrides size (drop more dims)
fewer_packed size dims k more h packed =
    let e : k + (more - k) ≡ more = omega (arith, h) in
    subst (λ (n : ℕ). AreRowMajorStrides size (drop n dims)) e (subst (AreRowMajorStrides size) (drop-drop (more - k) k dims) (strides-drop size (more - k) (drop k dims) packed))

-- the last dimensions are packed, as many as belong to the tail
pub joined_packed : (size : ℕ) (dims : List (ℕ × ℤ × ℤ)) (joined : ℕ) → joined ≤ tail_of_strides size (shape_of dims) (strides_of dims) → AreRowMajorStrides size (joined_dims joined dims)
joined_packed size dims joined h =
    let tail = tail_is size dims in
    fewer_packed size dims (length (shape_of dims) - tail_of_strides size (shape_of dims) (strides_of dims)) (length dims - joined) (omega (arith, h, as_many dims))
    (from_lists size (length (shape_of dims) - tail_of_strides size (shape_of dims) (strides_of dims)) dims tail.packed)

pub tail_few : (size : ℕ) (dims : List (ℕ × ℤ × ℤ)) → tail_of_strides size (shape_of dims) (strides_of dims) ≤ length dims
tail_few size dims = let few = (tail_is size dims).few in omega (arith, few, as_many dims)

-- no longer tail is packed, where the code stops
not_more : (size k t : ℕ) (dims : List (ℕ × ℤ × ℤ)) → k ≤ length dims → (0 < k → AreRowMajorStrides size (drop (k - 1) dims) → ⊥)
    → IsTail size (shape_of dims) (strides_of dims) t → (b : Bool) → leb t (length dims - k) ≡ b → length dims - k ≤ t → length dims - k ≡ t
not_more size k t dims h unfit tail true e least = let most : t ≤ length dims - k = grind (arith, e) in omega (arith, least, most)
not_more size k t dims h unfit tail false e least =
    let more : length dims - k < t = grind (arith, e) in
    let long = as_many dims in
    let few : t ≤ length (shape_of dims) = tail.few in
    absurd (unfit (omega (arith, more, few, long)) (fewer_packed size dims (length (shape_of dims) - t) (k - 1) (omega (arith, more, few, long, h)) (from_lists size (length (shape_of dims) - t) dims tail.packed)))

found : (size k t : ℕ) (dims : List (ℕ × ℤ × ℤ)) → k ≤ length dims → AreRowMajorStrides size (drop k dims) → (0 < k → AreRowMajorStrides size (drop (k - 1) dims) → ⊥)
    → IsTail size (shape_of dims) (strides_of dims) t → length dims - k ≡ t
found size k t dims h packed unfit tail =
    let long = as_many dims in
    let few : t ≤ length (shape_of dims) = tail.few in
    let back : k ≡ length (shape_of dims) - (length dims - k) = omega (arith, h, long) in
    let least : length dims - k ≤ t = tail.greatest (length dims - k) (omega (arith, long)) (subst (ArePacked size (shape_of dims) (strides_of dims)) back (to_lists size k dims packed)) in
    not_more size k t dims h unfit tail (leb t (length dims - k)) refl least

pub tail_found : (size k : ℕ) (dims : List (ℕ × ℤ × ℤ)) → k ≤ length dims → AreRowMajorStrides size (drop k dims) → (0 < k → AreRowMajorStrides size (drop (k - 1) dims) → ⊥)
    → length dims - k ≡ tail_of_strides size (shape_of dims) (strides_of dims)
tail_found size k dims h packed unfit = found size k (tail_of_strides size (shape_of dims) (strides_of dims)) dims h packed unfit (tail_is size dims)

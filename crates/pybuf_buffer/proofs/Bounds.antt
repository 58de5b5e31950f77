-- How many ranges there are at most.
use Rattle.std.proofs.Common.{◌≡◌, ℕ, zero, suc, ◌-◌, ◌*◌, ◌<◌, ◌≤◌, ℤ, pos, true, List, [], ◌∷◌, length, take, drop, le_refl, mul-le-mul_left, mul-pos, refl, ap, sym, ◌∙◌, subst, arith}
use Rattle.std.specs.Prelude.{slice_get, ◌==◌, if◌then◌else◌}
use Rattle.std.proofs.lemmas.Bool.Decides.{Decides-int_eq}
use Rattle.pybuf_lemmas.proofs.Numbers.{first_factor_positive, second_factor_positive}
use Rattle.pybuf_desc.specs.Layouts.{Layout, product}
use Rattle.pybuf_desc.specs.Strides.{AreRowMajor}
use Rattle.pybuf_desc.specs.Tails.{tail_of_layout}
use Rattle.pybuf_desc.specs.Laws.{IsTail, TailsAreGreatest}
use Rattle.pybuf_buffer.specs.Appending.{shape_before_tail}
use Rattle.pybuf_buffer.specs.Laws.{RangeCountsAreBounded, RangeCountsAreBoundedByRows, has_joined_rows, is_stride}

-- ---- none, or a number of them

at_most : (n m most : ℕ) → (0 < n → m ≤ most) → (if n == 0 then 0 else m) ≤ most
at_most zero m most h = omega arith
at_most (suc n) m most h = let more : m ≤ most = h (omega arith) in grind (arith, more)

at_some : (n m : ℕ) → 0 < n → (if n == 0 then 0 else m) ≡ m
at_some zero m h = absurd (omega (arith, h))
at_some (suc n) m h = grind arith

-- ---- products of the first entries

some_first : (k : ℕ) (xs : List ℕ) → 0 < product xs → 0 < product (take k xs)
some_first zero xs some = omega arith
some_first (suc k) [] some = some
some_first (suc k) (x ∷ xs) some = mul-pos (first_factor_positive x (product xs) some) (some_first k xs (second_factor_positive x (product xs) some))

fewer_first : (j k : ℕ) (xs : List ℕ) → j ≤ k → 0 < product xs → product (take j xs) ≤ product (take k xs)
fewer_first zero k xs few some = some_first k xs some
fewer_first (suc j) zero xs few some = absurd (omega (arith, few))
fewer_first (suc j) (suc k) [] few some = le_refl 1
fewer_first (suc j) (suc k) (x ∷ xs) few some = mul-le-mul_left x (fewer_first j k xs (omega (arith, few)) (second_factor_positive x (product xs) some))

all_first : (xs : List ℕ) → take (length xs) xs ≡ xs
all_first [] = refl
all_first (x ∷ xs) = ap (λ (ys : List ℕ). x ∷ ys) (all_first xs)

none_first : (k : ℕ) (xs : List ℕ) → k ≡ 0 → product (take k xs) ≡ 1
none_first zero xs e = refl
none_first (suc k) xs e = absurd (omega (arith, e))

nothing_first : (k : ℕ) → product (take k []) ≤ 1
nothing_first zero = le_refl 1
nothing_first (suc k) = le_refl 1

-- ---- the bound by the tail

whole_tail : TailsAreGreatest → (view : Layout) → length view.shape ≡ length view.strides → AreRowMajor view.itemsize view.shape view.strides → length view.shape - tail_of_layout view ≡ 0
whole_tail greatest view long packed =
    let tail : IsTail view.itemsize view.shape view.strides (tail_of_layout view) = greatest view.itemsize view.shape view.strides long in
    let here : 0 ≡ length view.shape - length view.shape = omega arith in
    let most : length view.shape ≤ tail_of_layout view = tail.greatest (length view.shape) (le_refl (length view.shape)) (subst (λ (k : ℕ). AreRowMajor view.itemsize (drop k view.shape) (drop k view.strides)) here packed) in
    omega (arith, most)

pub are_bounded : TailsAreGreatest → RangeCountsAreBounded
are_bounded greatest view = record {
  before_tail = at_most (product view.shape) (product (shape_before_tail view)) (product (shape_before_tail view)) (λ _. le_refl (product (shape_before_tail view)));
  packed = λ long packed some.
      at_some (product view.shape) (product (shape_before_tail view)) some ∙ none_first (length view.shape - tail_of_layout view) view.shape (whole_tail greatest view long packed);
  none = λ e. ap (λ (n : ℕ). if n == 0 then 0 else product (shape_before_tail view)) e;
}

-- ---- the bound by rows

-- If the stride of the last dimension is the item size, that dimension is packed.
last_packed : (size : ℕ) (shape : List ℕ) (strides : List ℤ) → length shape ≡ length strides → is_stride size (slice_get strides (length strides - 1)) ≡ true
    → AreRowMajor size (drop (length shape - 1) shape) (drop (length shape - 1) strides)
last_packed size [] strides long joined = tt
last_packed size (n ∷ shape) [] long joined = absurd (let wrong : suc (length shape) ≡ 0 = long in omega (arith, wrong))
last_packed size (n ∷ []) (stride ∷ []) long joined =
    ((λ _. (Decides-int_eq stride (pos size)).0 joined ∙ (let once : pos size ≡ pos (size * 1) = ap pos (let e : size ≡ size * 1 = omega arith in e) in once)), tt)
last_packed size (n ∷ []) (stride ∷ other ∷ strides) long joined = absurd (let wrong : 1 ≡ suc (suc (length strides)) = long in omega (arith, wrong))
last_packed size (n ∷ m ∷ shape) (stride ∷ []) long joined = absurd (let wrong : suc (suc (length shape)) ≡ 1 = long in omega (arith, wrong))
last_packed size (n ∷ m ∷ shape) (stride ∷ other ∷ strides) long joined =
    let less : suc (length (m ∷ shape) - 1) ≡ length (n ∷ m ∷ shape) - 1 = omega arith in
    let fewer : length (stride ∷ other ∷ strides) - 1 ≡ suc (length (other ∷ strides) - 1) = omega arith in
    let same : suc (length (m ∷ shape)) ≡ suc (length (other ∷ strides)) = long in
    subst (λ (k : ℕ). AreRowMajor size (drop k (n ∷ m ∷ shape)) (drop k (stride ∷ other ∷ strides))) less
    (last_packed size (m ∷ shape) (other ∷ strides) (omega (arith, same)) (ap (λ (k : ℕ). is_stride size (slice_get (stride ∷ other ∷ strides) k)) (sym fewer) ∙ joined))

by_dimensions : (size : ℕ) (shape : List ℕ) (strides : List ℤ) (t : ℕ) → IsTail size shape strides t → AreRowMajor size (drop (length shape - 1) shape) (drop (length shape - 1) strides) → length shape - t ≤ length shape - 1
by_dimensions size [] strides t tail packed = omega arith
by_dimensions size (n ∷ shape) strides t tail packed =
    let one : 1 ≤ t = tail.greatest 1 (let long : 1 ≤ suc (length shape) = omega arith in long) packed in
    omega (arith, one)

-- So if there is a dimension, the tail has at least one.
some_tail : TailsAreGreatest → (view : Layout) → length view.shape ≡ length view.strides → has_joined_rows view ≡ true → length view.shape - tail_of_layout view ≤ length view.shape - 1
some_tail greatest view long joined =
    let tail : IsTail view.itemsize view.shape view.strides (tail_of_layout view) = greatest view.itemsize view.shape view.strides long in
    by_dimensions view.itemsize view.shape view.strides (tail_of_layout view) tail (last_packed view.itemsize view.shape view.strides long joined)

pub are_bounded_by_rows : TailsAreGreatest → RangeCountsAreBoundedByRows
are_bounded_by_rows greatest view long = record {
  joined = λ joined.
      at_most (product view.shape) (product (shape_before_tail view)) (product (take (length view.shape - 1) view.shape))
      (λ some. fewer_first (length view.shape - tail_of_layout view) (length view.shape - 1) view.shape (some_tail greatest view long joined) some);
  apart =
      at_most (product view.shape) (product (shape_before_tail view)) (product view.shape)
      (λ some.
      subst (λ (xs : List ℕ). product (shape_before_tail view) ≤ product xs) (all_first view.shape)
      (fewer_first (length view.shape - tail_of_layout view) (length view.shape) view.shape (omega arith) some));
  alone = λ e.
      at_most (product view.shape) (product (shape_before_tail view)) 1
      (λ _. subst (λ (shape : List ℕ). product (take (length view.shape - tail_of_layout view) shape) ≤ 1) (sym e) (nothing_first (length view.shape - tail_of_layout view)));
}

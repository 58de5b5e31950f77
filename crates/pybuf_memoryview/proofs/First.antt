-- The first item of a descriptor lies at its start.
use Rattle.std.proofs.Common.{◌≡◌, ℕ, zero, suc, ◌+◌, ◌*◌, ◌<◌, ℤ, pos, List, [], ◌∷◌, ◌++◌, length, map, ap, sym, ◌∙◌, refl, subst, arith}
use Rattle.std.specs.Prelude.{Some, slice_get, slice_index, ◌+ℤ◌, ◌*ℤ◌}
use Rattle.std.specs.List.{flat_map, range_with_len}
use Rattle.pybuf_lemmas.proofs.Numbers.{second_factor_positive}
use Rattle.pybuf_desc.specs.Layouts.{Layout, HasItemsOfItsShape, product}
use Rattle.pybuf_desc.specs.Descriptor.{Descriptor, shape_of}
use Rattle.pybuf_desc.specs.Places.{places, Stands}
use Rattle.pybuf_memoryview.specs.Orders.{nbytes_of}

first_of_both : {X : Type 0} (xs ys : List X) (x : X) → slice_get xs 0 ≡ Some x → slice_get (xs ++ ys) 0 ≡ Some x
first_of_both [] ys x at = absurd (cc)
first_of_both (y ∷ xs) ys x at = at

some_of_product : (n p : ℕ) → 0 < suc n * p → 0 < p
some_of_product n zero some = let none : suc n * 0 ≡ 0 = omega arith in absurd (omega (arith, some, none))
some_of_product n (suc p) some = omega arith

places_first : (dims : List (ℕ × ℤ × ℤ)) (start : ℤ) → 0 < product (shape_of dims) → slice_get (places dims start) 0 ≡ Some start
places_first [] start some = refl
places_first ((zero, stride, offset) ∷ dims) start some = absurd (let none : 0 * product (shape_of dims) ≡ 0 = grind arith in omega (arith, some, none))
places_first ((suc n, stride, offset) ∷ dims) start some =
    let at : start +ℤ pos 0 *ℤ stride ≡ start = grind arith in
    let first = places_first dims start (some_of_product n (product (shape_of dims)) some) in
    first_of_both (places dims (start +ℤ pos 0 *ℤ stride)) (flat_map (λ index. places dims (start +ℤ pos index *ℤ stride)) (range_with_len 1 n)) start
    (ap (λ (s : ℤ). slice_get (places dims s) 0) at ∙ first)

first_number : (starts : List ℕ) (start : ℕ) → slice_get (map (λ x. pos x) starts) 0 ≡ Some (pos start) → start ≡ slice_index starts 0
first_number [] start at = absurd (cc)
first_number (s ∷ starts) start at = cc

pub start_is_first : (d : Descriptor) (start : ℕ) (layout : Layout) → Stands d start layout → 0 < product layout.shape → start ≡ slice_index layout.starts 0
start_is_first d start layout stands some =
    let counted : 0 < product (shape_of d.dims) = subst (λ (s : List ℕ). 0 < product s) (sym stands.shape) some in
    first_number layout.starts start (ap (λ (ps : List ℤ). slice_get ps 0) (sym stands.starts) ∙ places_first d.dims (pos start) counted)

no_first : (starts : List ℕ) → length starts ≡ 0 → 0 ≡ slice_index starts 0
no_first [] none = refl
no_first (s ∷ starts) none = absurd (omega (arith, none))

product_of_none : (size n : ℕ) → 0 < size → size * n ≡ 0 → n ≡ 0
product_of_none size zero some none = refl
product_of_none zero (suc n) some none = absurd (omega (arith, some))
product_of_none (suc size) (suc n) some none = absurd (let all : suc size * suc n ≡ suc (n + size * suc n) = grind arith in omega (arith, all, none))

pub first_of_no_bytes : (layout : Layout) → HasItemsOfItsShape layout → 0 < layout.itemsize → nbytes_of layout ≡ 0 → 0 ≡ slice_index layout.starts 0
first_of_no_bytes layout counted some none = no_first layout.starts (counted ∙ product_of_none layout.itemsize (product layout.shape) some none)

pub some_of : (n : ℕ) → (n ≡ 0 → ⊥) → 0 < n
some_of zero some = absurd (some refl)
some_of (suc n) some = omega arith

pub some_items : (layout : Layout) → 0 < nbytes_of layout → 0 < product layout.shape
some_items layout some = second_factor_positive layout.itemsize (product layout.shape) some

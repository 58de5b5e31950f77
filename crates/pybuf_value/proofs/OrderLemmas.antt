-- The order of bytes is std's order of slices, and it is total.
use Rattle.std.proofs.Common.{◌≡◌, ℕ, ◌==◌, Bool, true, false, cond, List, [], ◌∷◌, ◌&&◌, refl, ap, sym, ◌∙◌, subst, arith}
use Rattle.std.specs.Prelude.{nat_lt, ◌↔◌}
use Rattle.std.specs.Str.{bytes_eq}
use Rattle.std.specs.Cmp.{IsTotalOrder}
use Rattle.std.specs.Cmp.Lexicographic.{slice_cmp}
use Rattle.std.specs.Ordering.{nat_cmp, is_eq, ordering_then, ordering_reverse}
use Rattle.std.specs.declared.cmp.Ordering.{Ordering}
use Rattle.std.specs.declared.cmp.Ordering.TheVariants.{Less, Equal, Greater}
use Rattle.std.proofs.lemmas.Bool.Decides.{nat_tests}
use Rattle.std.proofs.lemmas.Cmp.{nat_list_cmp_total, tied_itself}
use Rattle.std.proofs.lemmas.Slice.Eq.{bytes_eq-Decides}
use Rattle.pybuf_value.specs.Order.{order_of}
use Rattle.pybuf_value.specs.Laws.{OrdersAll, OperatorsAgree}

then_same : (less equal : Bool) (o p : Ordering) → o ≡ p → ordering_then (cond less Less (cond equal Equal Greater)) o ≡ cond less Less (cond equal p Greater)
then_same true equal o p h = refl
then_same false true o p h = h
then_same false false o p h = refl

pub slice_cmp_bytes : (xs ys : List ℕ) → slice_cmp nat_cmp xs ys ≡ order_of xs ys
slice_cmp_bytes [] [] = refl
slice_cmp_bytes [] (y ∷ ys) = refl
slice_cmp_bytes (x ∷ xs) [] = refl
slice_cmp_bytes (x ∷ xs) (y ∷ ys) = then_same (nat_lt x y) (x == y) (slice_cmp nat_cmp xs ys) (order_of xs ys) (slice_cmp_bytes xs ys)

same_front : (x y : ℕ) (b : Bool) (o : Ordering) → b ≡ is_eq o → (x == y && b) ≡ is_eq (cond (nat_lt x y) Less (cond (x == y) o Greater))
same_front x y b o h = grind (arith, nat_tests)

pub bytes_eq_order : (xs ys : List ℕ) → bytes_eq xs ys ≡ is_eq (order_of xs ys)
bytes_eq_order [] [] = refl
bytes_eq_order [] (y ∷ ys) = refl
bytes_eq_order (x ∷ xs) [] = refl
bytes_eq_order (x ∷ xs) (y ∷ ys) = same_front x y (bytes_eq xs ys) (order_of xs ys) (bytes_eq_order xs ys)

same_here : (xs : List ℕ) → order_of xs xs ≡ Equal
same_here xs = sym (slice_cmp_bytes xs xs) ∙ tied_itself nat_list_cmp_total xs

alike : (xs ys : List ℕ) → (order_of xs ys ≡ Equal) ↔ (xs ≡ ys)
alike xs ys = (λ h. (bytes_eq-Decides xs ys).0 (bytes_eq_order xs ys ∙ ap is_eq h), λ p. subst (λ zs. order_of xs zs ≡ Equal) p (same_here xs))

turned_round : (xs ys : List ℕ) → order_of ys xs ≡ ordering_reverse (order_of xs ys)
turned_round xs ys = sym (slice_cmp_bytes ys xs) ∙ (IsTotalOrder.antisymm nat_list_cmp_total ys xs ∙ ap ordering_reverse (slice_cmp_bytes xs ys))

less_through : (xs ys zs : List ℕ) → order_of xs ys ≡ Less → order_of ys zs ≡ Less → order_of xs zs ≡ Less
less_through xs ys zs h k =
    sym (slice_cmp_bytes xs zs) ∙ IsTotalOrder.trans nat_list_cmp_total xs ys zs (slice_cmp_bytes xs ys ∙ h) (slice_cmp_bytes ys zs ∙ k)

pub bytes_ordered : OrdersAll order_of
bytes_ordered = record { equal = alike; turned = turned_round; transitive = less_through }

pub laws_of_operators : (o : Ordering) → OperatorsAgree o
laws_of_operators Less = record { unequal = refl; not_less = refl; not_greater = refl; one = refl }
laws_of_operators Equal = record { unequal = refl; not_less = refl; not_greater = refl; one = refl }
laws_of_operators Greater = record { unequal = refl; not_less = refl; not_greater = refl; one = refl }

-- Shapes that agree, items that are the same, and views that have such shapes and items.
use Rattle.std.proofs.Common.{◌≡◌, ℕ, zero, suc, ◌*◌, Bool, true, false, true≢false, ℤ, List, [], ◌∷◌, length, ap, ap₂, sym, ◌∙◌, refl, subst, arith}
use Rattle.std.specs.Prelude.{◌==◌, ◌&&◌}
use Rattle.std.proofs.lemmas.Bool.{eq-eqb, eqb-true}
use Rattle.std.proofs.lemmas.List.{length-map}
use Rattle.std.proofs.Math.Nat.{mul-zero}
use Rattle.pybuf_lemmas.proofs.Booleans.{both_hold, first_of_both, second_of_both, second_of_neither}
use Rattle.pybuf_value.specs.declared.values.Item.{Item}
use Rattle.pybuf_value.specs.declared.snaps.Snap.{Snap}
use Rattle.pybuf_value.specs.Equality.{same_item}
use Rattle.pybuf_value.specs.Laws.{ItemEqualityIsEquivalence}
use Rattle.pybuf_desc.specs.Descriptor.{shape_of}
use Rattle.pybuf_desc.specs.Layouts.{product}
use Rattle.pybuf_memoryview.specs.Orders.{has_zero_entry}
use Rattle.pybuf_equality.specs.Equality.{items_cut, items_of_snap, agree_after, shapes_agree, same_items, same_view}
use Rattle.pybuf_equality.specs.Laws.{ViewEqualityIsEquivalence}
use Rattle.pybuf_equality.proofs.Bools.{either}

-- ---- items

items_reflexive : ItemEqualityIsEquivalence → (xs : List Item) → same_items xs xs ≡ true
items_reflexive law [] = refl
items_reflexive law (x ∷ xs) = both_hold (same_item x x) (same_items xs xs) (law.reflexive x) (items_reflexive law xs)

items_symmetric : ItemEqualityIsEquivalence → (xs ys : List Item) → same_items xs ys ≡ true → same_items ys xs ≡ true
items_symmetric law [] [] e = refl
items_symmetric law [] (y ∷ ys) e = e
items_symmetric law (x ∷ xs) [] e = e
items_symmetric law (x ∷ xs) (y ∷ ys) e =
    both_hold (same_item y x) (same_items ys xs) (law.symmetric x y (first_of_both (same_item x y) (same_items xs ys) e))
    (items_symmetric law xs ys (second_of_both (same_item x y) (same_items xs ys) e))

items_transitive : ItemEqualityIsEquivalence → (xs ys zs : List Item) → same_items xs ys ≡ true → same_items ys zs ≡ true → same_items xs zs ≡ true
items_transitive law [] [] zs e f = f
items_transitive law [] (y ∷ ys) zs e f = absurd (true≢false (sym e))
items_transitive law (x ∷ xs) [] zs e f = absurd (true≢false (sym e))
items_transitive law (x ∷ xs) (y ∷ ys) [] e f = f
items_transitive law (x ∷ xs) (y ∷ ys) (z ∷ zs) e f =
    both_hold (same_item x z) (same_items xs zs)
    (law.transitive x y z (first_of_both (same_item x y) (same_items xs ys) e) (first_of_both (same_item y z) (same_items ys zs) f))
    (items_transitive law xs ys zs (second_of_both (same_item x y) (same_items xs ys) e) (second_of_both (same_item y z) (same_items ys zs) f))

-- ---- shapes

after_true : (n : ℕ) (b : Bool) → b ≡ true → agree_after n b ≡ true
after_true zero b e = refl
after_true (suc n) b e = e

after_both : (n : ℕ) (a b c : Bool) → (a ≡ true → b ≡ true → c ≡ true) → agree_after n a ≡ true → agree_after n b ≡ true → agree_after n c ≡ true
after_both zero a b c f p q = refl
after_both (suc n) a b c f p q = f p q

shapes_reflexive : (s : List ℕ) → shapes_agree s s ≡ true
shapes_reflexive [] = refl
shapes_reflexive (n ∷ s) = both_hold (n == n) (agree_after n (shapes_agree s s)) (eq-eqb n n refl) (after_true n (shapes_agree s s) (shapes_reflexive s))

entry_same : (n m : ℕ) (s o : List ℕ) → shapes_agree (n ∷ s) (m ∷ o) ≡ true → n ≡ m
entry_same n m s o e = eqb-true n m (first_of_both (n == m) (agree_after n (shapes_agree s o)) e)

shapes_symmetric : (s o : List ℕ) → shapes_agree s o ≡ true → shapes_agree o s ≡ true
shapes_symmetric [] [] e = refl
shapes_symmetric [] (m ∷ o) e = e
shapes_symmetric (n ∷ s) [] e = e
shapes_symmetric (n ∷ s) (m ∷ o) e =
    let same : n ≡ m = entry_same n m s o e in
    let rest = second_of_both (n == m) (agree_after n (shapes_agree s o)) e in
    both_hold (m == n) (agree_after m (shapes_agree o s)) (eq-eqb m n (sym same))
    (subst (λ (k : ℕ). agree_after k (shapes_agree o s) ≡ true) same
    (after_both n (shapes_agree s o) (shapes_agree s o) (shapes_agree o s) (λ p q. shapes_symmetric s o p) rest rest))

shapes_transitive : (s o p : List ℕ) → shapes_agree s o ≡ true → shapes_agree o p ≡ true → shapes_agree s p ≡ true
shapes_transitive [] [] p e f = f
shapes_transitive [] (m ∷ o) p e f = absurd (true≢false (sym e))
shapes_transitive (n ∷ s) [] p e f = absurd (true≢false (sym e))
shapes_transitive (n ∷ s) (m ∷ o) [] e f = f
shapes_transitive (n ∷ s) (m ∷ o) (k ∷ p) e f =
    let same : n ≡ m = entry_same n m s o e in
    let rest = second_of_both (n == m) (agree_after n (shapes_agree s o)) e in
    let other_rest = second_of_both (m == k) (agree_after m (shapes_agree o p)) f in
    both_hold (n == k) (agree_after n (shapes_agree s p)) (eq-eqb n k (same ∙ entry_same m k o p f))
    (after_both n (shapes_agree s o) (shapes_agree o p) (shapes_agree s p) (shapes_transitive s o p) rest
    (subst (λ (i : ℕ). agree_after i (shapes_agree o p) ≡ true) (sym same) other_rest))

not_zero : (n : ℕ) → (suc n == 0) ≡ true → ⊥
not_zero n e = let same : suc n ≡ 0 = eqb-true (suc n) 0 e in absurd (omega (arith, same))

-- Shapes that agree and have no entry of 0 are the same.
pub shapes_same : (s o : List ℕ) → shapes_agree s o ≡ true → has_zero_entry s ≡ false → s ≡ o
shapes_same [] [] e none = refl
shapes_same [] (m ∷ o) e none = absurd (true≢false (sym e))
shapes_same (n ∷ s) [] e none = absurd (true≢false (sym e))
shapes_same (zero ∷ s) (m ∷ o) e none = absurd (true≢false none)
shapes_same (suc n ∷ s) (m ∷ o) e none =
    ap₂ (λ (k : ℕ) (r : List ℕ). k ∷ r) (entry_same (suc n) m s o e)
    (shapes_same s o (second_of_both (suc n == m) (agree_after (suc n) (shapes_agree s o)) e) (second_of_neither (suc n == 0) (has_zero_entry s) none))

-- Shapes that have such an entry have no items.
pub record HaveNoItems (s o : List ℕ) : Type 0 where
  pub one : product s ≡ 0
  pub other : product o ≡ 0

times_none : (n p : ℕ) → p ≡ 0 → n * p ≡ 0
times_none n p none = ap (λ (k : ℕ). n * k) none ∙ mul-zero n

pub without_entries : (s o : List ℕ) → shapes_agree s o ≡ true → has_zero_entry s ≡ true → HaveNoItems s o
without_entries [] o e some = absurd (true≢false (sym some))
without_entries (n ∷ s) [] e some = absurd (true≢false (sym e))
without_entries (zero ∷ s) (m ∷ o) e some =
    let same : 0 ≡ m = entry_same 0 m s o e in record {
      one = let none : 0 * product s ≡ 0 = grind arith in none;
      other = ap (λ (k : ℕ). k * product o) (sym same) ∙ (let none : 0 * product o ≡ 0 = grind arith in none);
    }
without_entries (suc n ∷ s) (m ∷ o) e some =
    let later = without_entries s o (second_of_both (suc n == m) (agree_after (suc n) (shapes_agree s o)) e) (either (suc n == 0) (has_zero_entry s) some (not_zero n)) in
    record { one = times_none (suc n) (product s) later.one; other = times_none m (product o) later.other }

-- ---- views

pub equivalence : ItemEqualityIsEquivalence → ViewEqualityIsEquivalence
equivalence law = record {
  reflexive = λ s.
      both_hold (length s.shape == length s.shape) (shapes_agree s.shape s.shape && same_items (items_of_snap s) (items_of_snap s)) (eq-eqb (length s.shape) (length s.shape) refl)
      (both_hold (shapes_agree s.shape s.shape) (same_items (items_of_snap s) (items_of_snap s)) (shapes_reflexive s.shape) (items_reflexive law (items_of_snap s)));
  symmetric = λ s t e.
      let later = second_of_both (length s.shape == length t.shape) (shapes_agree s.shape t.shape && same_items (items_of_snap s) (items_of_snap t)) e in
      both_hold (length t.shape == length s.shape) (shapes_agree t.shape s.shape && same_items (items_of_snap t) (items_of_snap s))
      (eq-eqb (length t.shape) (length s.shape) (sym (eqb-true (length s.shape) (length t.shape) (first_of_both (length s.shape == length t.shape) (shapes_agree s.shape t.shape && same_items (items_of_snap s) (items_of_snap t)) e))))
      (both_hold (shapes_agree t.shape s.shape) (same_items (items_of_snap t) (items_of_snap s))
      (shapes_symmetric s.shape t.shape (first_of_both (shapes_agree s.shape t.shape) (same_items (items_of_snap s) (items_of_snap t)) later))
      (items_symmetric law (items_of_snap s) (items_of_snap t) (second_of_both (shapes_agree s.shape t.shape) (same_items (items_of_snap s) (items_of_snap t)) later)));
  transitive = λ s t u e f.
      let later = second_of_both (length s.shape == length t.shape) (shapes_agree s.shape t.shape && same_items (items_of_snap s) (items_of_snap t)) e in
      let last = second_of_both (length t.shape == length u.shape) (shapes_agree t.shape u.shape && same_items (items_of_snap t) (items_of_snap u)) f in
      both_hold (length s.shape == length u.shape) (shapes_agree s.shape u.shape && same_items (items_of_snap s) (items_of_snap u))
      (eq-eqb (length s.shape) (length u.shape)
      (eqb-true (length s.shape) (length t.shape) (first_of_both (length s.shape == length t.shape) (shapes_agree s.shape t.shape && same_items (items_of_snap s) (items_of_snap t)) e)
      ∙ eqb-true (length t.shape) (length u.shape) (first_of_both (length t.shape == length u.shape) (shapes_agree t.shape u.shape && same_items (items_of_snap t) (items_of_snap u)) f)))
      (both_hold (shapes_agree s.shape u.shape) (same_items (items_of_snap s) (items_of_snap u))
      (shapes_transitive s.shape t.shape u.shape (first_of_both (shapes_agree s.shape t.shape) (same_items (items_of_snap s) (items_of_snap t)) later) (first_of_both (shapes_agree t.shape u.shape) (same_items (items_of_snap t) (items_of_snap u)) last))
      (items_transitive law (items_of_snap s) (items_of_snap t) (items_of_snap u) (second_of_both (shapes_agree s.shape t.shape) (same_items (items_of_snap s) (items_of_snap t)) later) (second_of_both (shapes_agree t.shape u.shape) (same_items (items_of_snap t) (items_of_snap u)) last)));
}

-- ---- what is known of two views after each test

chosen : (a b c : Bool) → a ≡ true → b ≡ true → (a && (b && c)) ≡ c
chosen a b c p q = ap₂ (λ (x y : Bool). x && (y && c)) p q

pub by_items : (s t : Snap) → length s.shape ≡ length t.shape → shapes_agree s.shape t.shape ≡ true → same_view s t ≡ same_items (items_of_snap s) (items_of_snap t)
by_items s t long agree = chosen (length s.shape == length t.shape) (shapes_agree s.shape t.shape) (same_items (items_of_snap s) (items_of_snap t)) (eq-eqb (length s.shape) (length t.shape) long) agree

no_items : (s : Snap) → product s.shape ≡ 0 → items_of_snap s ≡ []
no_items s none = ap (λ (n : ℕ). items_cut s.format s.itemsize n s.content) none

pub without_items : (s t : Snap) → length s.shape ≡ length t.shape → shapes_agree s.shape t.shape ≡ true → has_zero_entry s.shape ≡ true → true ≡ same_view s t
without_items s t long agree some =
    let none = without_entries s.shape t.shape agree some in
    sym (by_items s t long agree ∙ ap₂ same_items (no_items s none.one) (no_items t none.other))

-- ---- dimensions of two descriptors

pub as_many_entries : (dims others : List (ℕ × ℤ × ℤ)) (s t : List ℕ) → shape_of dims ≡ s → shape_of others ≡ t → length dims ≡ length others → length s ≡ length t
as_many_entries dims others s t is other_is long =
    ap length (sym is) ∙ length-map dims (λ (dim : ℕ × ℤ × ℤ). dim.0) ∙ long ∙ sym (length-map others (λ (dim : ℕ × ℤ × ℤ). dim.0)) ∙ ap length other_is

pub as_many_as : (dims : List (ℕ × ℤ × ℤ)) (s t : List ℕ) → shape_of dims ≡ s → length dims ≡ length t → length s ≡ length t
as_many_as dims s t is long = ap length (sym is) ∙ length-map dims (λ (dim : ℕ × ℤ × ℤ). dim.0) ∙ long

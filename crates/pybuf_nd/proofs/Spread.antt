-- How far apart the entries of a dimension lie, if all items lie inside.
use Rattle.std.proofs.Common.{◌≡◌, ℕ, zero, suc, ◌+◌, ◌^◌, ◌<◌, ℤ, pos, ◌+ℤ◌, ◌*ℤ◌, List, [], ◌∷◌, subst, arith, SFits, w64, flat_map}
use Rattle.std.proofs.lemmas.Int.{ints}
use Rattle.std.specs.List.{AllByRecursion, range_with_len}
use Rattle.pybuf_lemmas.proofs.Recursion.{left_by_recursion, right_by_recursion}
use Rattle.pybuf_lemmas.proofs.Integers.{zeroth_place}
use Rattle.pybuf_desc.specs.Places.{places}
use Rattle.pybuf_desc.specs.Valid.{IsInside}

abbrev pub AreNonzero : List (ℕ × ℤ × ℤ) → Type 0
AreNonzero [] = Unit {0}
AreNonzero (dim ∷ dims) = (0 < dim.0) × AreNonzero dims

block_of : {X : Type 0} (P : X → Type 0) (g : ℕ → List X) (a n i : ℕ) → i < n → AllByRecursion P (flat_map g (range_with_len a n)) → AllByRecursion P (g (a + i))
block_of P g a zero i h all = absurd (omega arith)
block_of P g a (suc n) zero h all = subst (λ k. AllByRecursion P (g k)) (let e : a ≡ a + zero = omega arith in e) (left_by_recursion P (g a) (flat_map g (range_with_len (a + 1) n)) all)
block_of P g a (suc n) (suc i) h all =
    subst (λ k. AllByRecursion P (g k)) (let e : a + 1 + i ≡ a + suc i = omega arith in e) (block_of P g (a + 1) n i (omega arith) (right_by_recursion P (g a) (flat_map g (range_with_len (a + 1) n)) all))

-- the items at one entry of the first dimension
pub entry_of : (P : ℤ → Type 0) (dim : ℕ × ℤ × ℤ) (dims : List (ℕ × ℤ × ℤ)) (p : ℤ) (i : ℕ) → i < dim.0 → AllByRecursion P (places (dim ∷ dims) p) → AllByRecursion P (places dims (p +ℤ pos i *ℤ dim.1))
entry_of P dim dims p i h all =
    subst (λ k. AllByRecursion P (places dims (p +ℤ pos k *ℤ dim.1))) (let e : 0 + i ≡ i = omega arith in e) (block_of P (λ k. places dims (p +ℤ pos k *ℤ dim.1)) 0 dim.0 i h all)

-- The first item lies where the places start.
pub first_of : (P : ℤ → Type 0) (dims : List (ℕ × ℤ × ℤ)) (p : ℤ) → AreNonzero dims → AllByRecursion P (places dims p) → P p
first_of P [] p some all = all.0
first_of P (dim ∷ dims) p some all =
    subst P (zeroth_place p dim.1) (first_of P dims (p +ℤ pos 0 *ℤ dim.1) some.1 (entry_of P dim dims p 0 some.0 all))

-- In each dimension, the way from one entry to another fits into `isize`.
abbrev pub AreSpread : List (ℕ × ℤ × ℤ) → Type 0
AreSpread [] = Unit {0}
AreSpread (dim ∷ dims) = ((a b : ℕ) (s : ℤ) → a < dim.0 → b < dim.0 → pos b *ℤ dim.1 ≡ pos a *ℤ dim.1 +ℤ s → SFits w64 s) × AreSpread dims

apart : (p a b s : ℤ) (size room : ℕ) → room < 2 ^ 63 → IsInside size room (p +ℤ a) → IsInside size room (p +ℤ b) → b ≡ a +ℤ s → SFits w64 s
apart p a b s size room fits x y e = let l = x.low in let h = x.high in let m = y.low in let k = y.high in omega (arith, ints, fits, l, h, m, k, e)

pub spread_of : (size room : ℕ) (dims : List (ℕ × ℤ × ℤ)) (p : ℤ) → room < 2 ^ 63 → AreNonzero dims → AllByRecursion (IsInside size room) (places dims p) → AreSpread dims
spread_of size room [] p fits some all = tt
spread_of size room (dim ∷ dims) p fits some all = (
  λ a b s h g e.
      apart p (pos a *ℤ dim.1) (pos b *ℤ dim.1) s size room fits
      (first_of (IsInside size room) dims (p +ℤ pos a *ℤ dim.1) some.1 (entry_of (IsInside size room) dim dims p a h all))
      (first_of (IsInside size room) dims (p +ℤ pos b *ℤ dim.1) some.1 (entry_of (IsInside size room) dim dims p b g all)) e,
  spread_of size room dims p fits some.1 (subst (λ q. AllByRecursion (IsInside size room) (places dims q)) (zeroth_place p dim.1) (entry_of (IsInside size room) dim dims p 0 some.0 all)),
)

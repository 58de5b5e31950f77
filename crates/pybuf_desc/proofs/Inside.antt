-- All bytes of all items lie inside exactly if those at the least and at the greatest place do.
use Rattle.std.proofs.Common.{◌≡◌, ℕ, zero, suc, ◌+◌, ◌-◌, ◌*◌, ◌<◌, ◌≤◌, ℤ, pos, negsuc, ◌+ℤ◌, ◌≤ℤ◌, List, [], ◌∷◌, ◌++◌, length, get_or, drop, drop-cons, refl, ap, sym, subst, arith, IsTrue, true, false, ◌↔◌, All, unsigned_abs, true≢false}
use Rattle.std.proofs.lemmas.List.Elements.{All-from_recursion, recursion_from_All}
use Rattle.std.proofs.lemmas.Int.{ints}
use Rattle.std.specs.List.{AllByRecursion}
use Rattle.pybuf_lemmas.proofs.Recursion.{left_by_recursion, right_by_recursion}
use Rattle.pybuf_desc.specs.Places.{places}
use Rattle.pybuf_desc.specs.Valid.{IsInside}
use Rattle.pybuf_desc.proofs.Products.{AreNonzero, AreNonzero-from_All}
use Rattle.pybuf_desc.proofs.Steps.{blocks_apart, places-cons}

pub ByRec-append : {X : Type 0} (P : X → Type 0) (xs ys : List X) → AllByRecursion P xs → AllByRecursion P ys → AllByRecursion P (xs ++ ys)
ByRec-append P [] ys h k = k
ByRec-append P (x ∷ xs) ys h k = (h.0, ByRec-append P xs ys h.1 k)

-- how far a stride leads back, and how far it leads forth
abbrev pub back : ℤ → ℕ
back (pos n) = 0
back (negsuc n) = suc n

abbrev pub forth : ℤ → ℕ
forth (pos n) = n
forth (negsuc n) = 0

-- how many times the stride leads from the first entry to the last
abbrev pub gaps : ℕ → ℕ
gaps zero = 0
gaps (suc n) = n

-- how far the least place lies before the start, and the greatest after it
abbrev pub back_reach : List (ℕ × ℤ × ℤ) → ℕ
back_reach [] = 0
back_reach (dim ∷ dims) = gaps dim.0 * back dim.1 + back_reach dims

abbrev pub forth_reach : List (ℕ × ℤ × ℤ) → ℕ
forth_reach [] = 0
forth_reach (dim ∷ dims) = gaps dim.0 * forth dim.1 + forth_reach dims

-- an item that lies `a` back from `p` and one that lies `b` forth stay inside
pub record Reaches (size room a b : ℕ) (p : ℤ) : Type 0 where
  pub least : pos a ≤ℤ p
  pub greatest : (p +ℤ pos (b + size)) ≤ℤ pos room

this_block : (size room a b m k l : ℕ) (p : ℤ) → Reaches size room (m * k + a) (m * l + b) p → Reaches size room a b p
this_block size room a b m k l p r = let low = r.least in let high = r.greatest in record { least = omega (arith, ints); greatest = omega (arith, ints) }

later_forth : (size room a b m k : ℕ) (p : ℤ) → Reaches size room (suc m * 0 + a) (suc m * k + b) p → Reaches size room (m * 0 + a) (m * k + b) (p +ℤ pos k)
later_forth size room a b m k p r = let low = r.least in let high = r.greatest in record { least = omega (arith, ints); greatest = omega (arith, ints) }

later_back : (size room a b m k : ℕ) (p : ℤ) → Reaches size room (suc m * suc k + a) (suc m * 0 + b) p → Reaches size room (m * suc k + a) (m * 0 + b) (p +ℤ negsuc k)
later_back size room a b m k p r = let low = r.least in let high = r.greatest in record { least = omega (arith, ints); greatest = omega (arith, ints) }

later_blocks : (size room a b m : ℕ) (p t : ℤ) → Reaches size room (suc m * back t + a) (suc m * forth t + b) p → Reaches size room (m * back t + a) (m * forth t + b) (p +ℤ t)
later_blocks size room a b m p (pos k) r = later_forth size room a b m k p r
later_blocks size room a b m p (negsuc k) r = later_back size room a b m k p r

all_forth : (size room a b m k : ℕ) (p : ℤ) → Reaches size room a b p → Reaches size room (m * 0 + a) (m * k + b) (p +ℤ pos k) → Reaches size room (suc m * 0 + a) (suc m * k + b) p
all_forth size room a b m k p q r = let low = q.least in let high = q.greatest in let low' = r.least in let high' = r.greatest in record { least = omega (arith, ints); greatest = omega (arith, ints) }

all_back : (size room a b m k : ℕ) (p : ℤ) → Reaches size room a b p → Reaches size room (m * suc k + a) (m * 0 + b) (p +ℤ negsuc k) → Reaches size room (suc m * suc k + a) (suc m * 0 + b) p
all_back size room a b m k p q r = let low = q.least in let high = q.greatest in let low' = r.least in let high' = r.greatest in record { least = omega (arith, ints); greatest = omega (arith, ints) }

all_blocks : (size room a b m : ℕ) (p t : ℤ) → Reaches size room a b p → Reaches size room (m * back t + a) (m * forth t + b) (p +ℤ t) → Reaches size room (suc m * back t + a) (suc m * forth t + b) p
all_blocks size room a b m p (pos k) q r = all_forth size room a b m k p q r
all_blocks size room a b m p (negsuc k) q r = all_back size room a b m k p q r

inside_blocks : (size room a b : ℕ) (block : ℤ → List ℤ) → ((q : ℤ) → Reaches size room a b q → AllByRecursion (IsInside size room) (block q)) → (n : ℕ) (p t : ℤ) → Reaches size room (gaps n * back t + a) (gaps n * forth t + b) p → AllByRecursion (IsInside size room) (blocks_apart block n p t)
inside_blocks size room a b block f zero p t r = tt
inside_blocks size room a b block f (suc zero) p t r =
    ByRec-append (IsInside size room) (block p) [] (f p (this_block size room a b 0 (back t) (forth t) p r)) tt
inside_blocks size room a b block f (suc (suc m)) p t r =
    ByRec-append (IsInside size room) (block p) (blocks_apart block (suc m) (p +ℤ t) t) (f p (this_block size room a b (suc m) (back t) (forth t) p r))
    (inside_blocks size room a b block f (suc m) (p +ℤ t) t (later_blocks size room a b m p t r))

pub inside_from_reach : (size room : ℕ) (dims : List (ℕ × ℤ × ℤ)) (p : ℤ) → Reaches size room (back_reach dims) (forth_reach dims) p → AllByRecursion (IsInside size room) (places dims p)
inside_from_reach size room [] p r = (let l = r.least in let h = r.greatest in record { low = omega (arith, ints); high = omega (arith, ints) }, tt)
inside_from_reach size room (dim ∷ dims) p r =
    subst (AllByRecursion (IsInside size room)) (sym (places-cons dim dims p))
    (inside_blocks size room (back_reach dims) (forth_reach dims) (places dims) (inside_from_reach size room dims) dim.0 p dim.1 r)

first_block : (size room a b k l : ℕ) (p : ℤ) → Reaches size room a b p → Reaches size room (0 * k + a) (0 * l + b) p
first_block size room a b k l p r = let low = r.least in let high = r.greatest in record { least = omega (arith, ints); greatest = omega (arith, ints) }

blocks_inside : (size room a b : ℕ) (block : ℤ → List ℤ) → ((q : ℤ) → AllByRecursion (IsInside size room) (block q) → Reaches size room a b q) → (n : ℕ) (p t : ℤ) → AllByRecursion (IsInside size room) (blocks_apart block (suc n) p t) → Reaches size room (n * back t + a) (n * forth t + b) p
blocks_inside size room a b block f zero p t h =
    let r : Reaches size room a b p = f p (left_by_recursion (IsInside size room) (block p) [] h) in
    first_block size room a b (back t) (forth t) p r
blocks_inside size room a b block f (suc m) p t h =
    all_blocks size room a b m p t (f p (left_by_recursion (IsInside size room) (block p) (blocks_apart block (suc m) (p +ℤ t) t) h))
    (blocks_inside size room a b block f m (p +ℤ t) t (right_by_recursion (IsInside size room) (block p) (blocks_apart block (suc m) (p +ℤ t) t) h))

blocks_inside_n : (size room a b : ℕ) (block : ℤ → List ℤ) → ((q : ℤ) → AllByRecursion (IsInside size room) (block q) → Reaches size room a b q) → (n : ℕ) (p t : ℤ) → 0 < n → AllByRecursion (IsInside size room) (blocks_apart block n p t) → Reaches size room (gaps n * back t + a) (gaps n * forth t + b) p
blocks_inside_n size room a b block f zero p t some h = absurd (omega arith)
blocks_inside_n size room a b block f (suc n) p t some h = blocks_inside size room a b block f n p t h

pub reach_from_inside : (size room : ℕ) (dims : List (ℕ × ℤ × ℤ)) (p : ℤ) → AreNonzero dims → AllByRecursion (IsInside size room) (places dims p) → Reaches size room (back_reach dims) (forth_reach dims) p
reach_from_inside size room [] p some h = let i = h.0 in let l = i.low in let g = i.high in record { least = omega (arith, ints); greatest = omega (arith, ints) }
reach_from_inside size room (dim ∷ dims) p some h =
    blocks_inside_n size room (back_reach dims) (forth_reach dims) (places dims) (λ q k. reach_from_inside size room dims q some.1 k) dim.0 p dim.1 some.0
    (subst (AllByRecursion (IsInside size room)) (places-cons dim dims p) h)

pub inside_in_reach : (size room start : ℕ) (dims : List (ℕ × ℤ × ℤ)) → back_reach dims ≤ start → start + forth_reach dims + size ≤ room → IsTrue true ↔ All (IsInside size room) (places dims (pos start))
inside_in_reach size room start dims low high =
    (λ _. All-from_recursion (IsInside size room) (places dims (pos start)) (inside_from_reach size room dims (pos start) (record { least = omega (arith, ints); greatest = omega (arith, ints) })), λ _. refl)

pub outside_of_reach : (size room start : ℕ) (dims : List (ℕ × ℤ × ℤ)) → All (λ dim. 0 < dim.0) dims → (back_reach dims ≤ start → start + forth_reach dims + size ≤ room → ⊥) → IsTrue false ↔ All (IsInside size room) (places dims (pos start))
outside_of_reach size room start dims some out = (
  λ wrong. absurd (true≢false (sym wrong)),
  λ h.
      let r : Reaches size room (back_reach dims) (forth_reach dims) (pos start) = reach_from_inside size room dims (pos start) (AreNonzero-from_All dims some) (recursion_from_All (IsInside size room) (places dims (pos start)) h) in
      let low = r.least in let high = r.greatest in absurd (out (omega (arith, ints)) (omega (arith, ints))),
)

back_reach-drop : (dims : List (ℕ × ℤ × ℤ)) (i : ℕ) → i < length dims → back_reach (drop i dims) ≡ gaps (get_or dims i (0, pos 0, pos 0)).0 * back (get_or dims i (0, pos 0, pos 0)).1 + back_reach (drop (suc i) dims)
back_reach-drop dims i h = ap back_reach (drop-cons dims i (0, pos 0, pos 0) h)

forth_reach-drop : (dims : List (ℕ × ℤ × ℤ)) (i : ℕ) → i < length dims → forth_reach (drop i dims) ≡ gaps (get_or dims i (0, pos 0, pos 0)).0 * forth (get_or dims i (0, pos 0, pos 0)).1 + forth_reach (drop (suc i) dims)
forth_reach-drop dims i h = ap forth_reach (drop-cons dims i (0, pos 0, pos 0) h)

gaps_is : (n : ℕ) → gaps n ≡ n - 1
gaps_is zero = omega arith
gaps_is (suc n) = omega arith

-- the `n` entries of a dimension can't stay inside if they lead further than there is room on either side
pub too_far : (n : ℕ) (z : ℤ) (before after most : ℕ) → before ≤ most → after ≤ most → (((n - 1) * unsigned_abs z ≤ most) → ⊥) → (gaps n * back z ≤ before → gaps n * forth z ≤ after → ⊥)
too_far n (pos k) before after most b a far low high = far (rw (← gaps_is n) (omega (arith, high, a)))
too_far n (negsuc k) before after most b a far low high = far (rw (← gaps_is n) (omega (arith, low, b)))

pub outside_at : (size room start before after i : ℕ) (dims : List (ℕ × ℤ × ℤ)) → All (λ dim. 0 < dim.0) dims → i < length dims
    → before + back_reach dims ≡ start + back_reach (drop i dims)
    → after + forth_reach dims + size + start ≡ room + forth_reach (drop i dims)
    → (gaps (get_or dims i (0, pos 0, pos 0)).0 * back (get_or dims i (0, pos 0, pos 0)).1 ≤ before → gaps (get_or dims i (0, pos 0, pos 0)).0 * forth (get_or dims i (0, pos 0, pos 0)).1 ≤ after → ⊥)
    → IsTrue false ↔ All (IsInside size room) (places dims (pos start))
outside_at size room start before after i dims some h eb ea far =
    outside_of_reach size room start dims some
    (λ low high. far (omega (arith, back_reach-drop dims i h, eb)) (omega (arith, forth_reach-drop dims i h, ea)))

-- Indices of an item, one dimension after the other.
use Rattle.std.proofs.Common.{◌≡◌, ℕ, zero, suc, ◌+◌, ◌*◌, ◌<◌, ◌≤◌, ℤ, pos, ◌+ℤ◌, ◌*ℤ◌, List, [], ◌∷◌, ◌++◌, length, get_or, drop, drop-cons, add-one, refl, ap, ap₂, sym, ◌∙◌, subst, arith, Result, Ok, Err, Some, slice_get, drop_of_length-le, suc-add, mul_comm}
use Rattle.std.proofs.lemmas.Nat.{mul-add-lt}
use Rattle.std.proofs.lemmas.Int.{ints}
use Rattle.pybuf_lemmas.proofs.Integers.{zeroth_place, successor_times}
use Rattle.pybuf_desc.specs.Facts.{length-places}
use Rattle.pybuf_value.specs.declared.faults.Fault.{Fault}
use Rattle.pybuf_desc.specs.Layouts.{product}
use Rattle.pybuf_desc.specs.Descriptor.{shape_of}
use Rattle.pybuf_desc.specs.Places.{places}
use Rattle.pybuf_desc.specs.Positions.{AreIndices, offset_of, number_of_item}
use Rattle.pybuf_desc.proofs.Steps.{blocks_apart, places-cons}
use Rattle.pybuf_desc.proofs.Products.{AreNonzero}

-- a position counted on from an offset
abbrev pub position_from : ℤ → Result ℤ Fault → Result ℤ Fault
position_from offset (Ok n) = Ok (offset +ℤ n)
position_from offset (Err f) = Err f

pub position_from-0 : (r : Result ℤ Fault) → r ≡ position_from (pos 0) r
position_from-0 (Ok n) = ap (λ (m : ℤ). Ok m) (let e : n ≡ pos 0 +ℤ n = omega (arith, ints) in e)
position_from-0 (Err f) = refl

pub AreNonzero-from_indices : (indices : List ℕ) (dims : List (ℕ × ℤ × ℤ)) → AreIndices indices dims → AreNonzero dims
AreNonzero-from_indices [] [] h = tt
AreNonzero-from_indices [] (dim ∷ dims) h = absurd h
AreNonzero-from_indices (i ∷ indices) [] h = absurd h
AreNonzero-from_indices (i ∷ indices) (dim ∷ dims) h = (let low = h.0 in omega arith, AreNonzero-from_indices indices dims h.1)

-- ---- one step of a walk over the dimensions

none_at : (dims : List (ℕ × ℤ × ℤ)) (k : ℕ) → k < length dims → AreIndices [] (drop k dims) → ⊥
none_at [] k h a = omega arith
none_at (dim ∷ dims) zero h a = a
none_at (dim ∷ dims) (suc k) h a = none_at dims k (omega arith) a

indices_at' : (indices : List ℕ) (dims : List (ℕ × ℤ × ℤ)) (k : ℕ) → k < length dims → AreIndices (drop k indices) (drop k dims)
    → (k < length indices) × (get_or indices k 0 < (get_or dims k (0, pos 0, pos 0)).0) × AreIndices (drop (suc k) indices) (drop (suc k) dims)
indices_at' indices [] k h a = absurd (omega arith)
indices_at' [] (dim ∷ dims) zero h a = absurd a
indices_at' (i ∷ indices) (dim ∷ dims) zero h a = (omega arith, a.0, a.1)
indices_at' [] (dim ∷ dims) (suc k) h a = absurd (none_at dims k (omega arith) a)
indices_at' (i ∷ indices) (dim ∷ dims) (suc k) h a =
    let rest : (k < length indices) × (get_or indices k 0 < (get_or dims k (0, pos 0, pos 0)).0) × AreIndices (drop (suc k) indices) (drop (suc k) dims) = indices_at' indices dims k (omega arith) a in
    (let low = rest.0 in omega arith, rest.1, rest.2)

pub indices_at : (indices : List ℕ) (dims : List (ℕ × ℤ × ℤ)) (k : ℕ) → k < length dims → AreIndices (drop k indices) (drop k dims)
    → (k < length indices) × (get_or indices k 0 < (get_or dims k (0, pos 0, pos 0)).0) × AreIndices (drop (k + 1) indices) (drop (k + 1) dims)
indices_at indices dims k h a = rw add-one (indices_at' indices dims k h a)

pub offset_of-drop : (indices : List ℕ) (dims : List (ℕ × ℤ × ℤ)) (k : ℕ) → k < length indices → k < length dims
    → offset_of (drop k indices) (drop k dims) ≡ pos (get_or indices k 0) *ℤ (get_or dims k (0, pos 0, pos 0)).1 +ℤ offset_of (drop (k + 1) indices) (drop (k + 1) dims)
offset_of-drop indices dims k h g = rw add-one (ap₂ (λ is ds. offset_of is ds) (drop-cons indices k 0 h) (drop-cons dims k (0, pos 0, pos 0) g))

plus_moves : (a b c n : ℤ) → n ≡ a +ℤ b → a +ℤ (b +ℤ c) ≡ n +ℤ c
plus_moves a b c n e = omega (arith, ints)

pub offset_more : (indices : List ℕ) (dims : List (ℕ × ℤ × ℤ)) (k : ℕ) (offset next : ℤ) → k < length indices → k < length dims
    → offset_of indices dims ≡ offset +ℤ offset_of (drop k indices) (drop k dims) → next ≡ offset +ℤ pos (get_or indices k 0) *ℤ (get_or dims k (0, pos 0, pos 0)).1
    → offset_of indices dims ≡ next +ℤ offset_of (drop (k + 1) indices) (drop (k + 1) dims)
offset_more indices dims k offset next h g e n =
    e ∙ ap (λ x. offset +ℤ x) (offset_of-drop indices dims k h g) ∙ plus_moves offset (pos (get_or indices k 0) *ℤ (get_or dims k (0, pos 0, pos 0)).1) (offset_of (drop (k + 1) indices) (drop (k + 1) dims)) next n

offset_of-nil : (indices : List ℕ) (offset : ℤ) → offset +ℤ offset_of indices [] ≡ offset
offset_of-nil [] offset = omega (arith, ints)
offset_of-nil (i ∷ indices) offset = omega (arith, ints)

pub offset_of-end : (indices : List ℕ) (dims : List (ℕ × ℤ × ℤ)) (k : ℕ) (offset : ℤ) → length dims ≤ k → offset +ℤ offset_of (drop k indices) (drop k dims) ≡ offset
offset_of-end indices dims k offset h =
    ap (λ ds. offset +ℤ offset_of (drop k indices) ds) (drop_of_length-le dims h) ∙ offset_of-nil (drop k indices) offset

-- ---- the place of an item

pub slice_get-left : (xs ys : List ℤ) (k : ℕ) → k < length xs → slice_get (xs ++ ys) k ≡ slice_get xs k
slice_get-left [] ys k h = absurd (omega arith)
slice_get-left (x ∷ xs) ys zero h = refl
slice_get-left (x ∷ xs) ys (suc k) h = slice_get-left xs ys k (omega arith)

pub slice_get-right : (xs ys : List ℤ) (k : ℕ) → slice_get (xs ++ ys) (length xs + k) ≡ slice_get ys k
slice_get-right [] ys k = ap (λ j. slice_get ys j) (let z : 0 + k ≡ k = omega arith in z)
slice_get-right (x ∷ xs) ys k = ap (λ j. slice_get ((x ∷ xs) ++ ys) j) (let z : length (x ∷ xs) + k ≡ suc (length xs + k) = suc-add (length xs) k in z) ∙ slice_get-right xs ys k

item_in_blocks : (block : ℤ → List ℤ) (size : ℕ) → ((q : ℤ) → length (block q) ≡ size) → (n i k : ℕ) (p t place : ℤ) → i < n → k < size → slice_get (block (p +ℤ pos i *ℤ t)) k ≡ Some place → slice_get (blocks_apart block n p t) (i * size + k) ≡ Some place
item_in_blocks block size each zero i k p t place h g e = absurd (omega arith)
item_in_blocks block size each (suc n) zero k p t place h g e =
    ap (λ j. slice_get (blocks_apart block (suc n) p t) j) (let z : zero * size + k ≡ k = omega arith in z)
    ∙ slice_get-left (block p) (blocks_apart block n (p +ℤ t) t) k (let l = each p in omega (arith, l))
    ∙ subst (λ q. slice_get (block q) k ≡ Some place) (zeroth_place p t) e
item_in_blocks block size each (suc n) (suc i) k p t place h g e =
    ap (λ j. slice_get (blocks_apart block (suc n) p t) j) (let z : suc i * size + k ≡ length (block p) + (i * size + k) = (let l = each p in omega (arith, l)) in z)
    ∙ slice_get-right (block p) (blocks_apart block n (p +ℤ t) t) (i * size + k)
    ∙ item_in_blocks block size each n i k (p +ℤ t) t place (omega arith) g
    (subst (λ q. slice_get (block q) k ≡ Some place) (let z : p +ℤ pos (suc i) *ℤ t ≡ p +ℤ t +ℤ pos i *ℤ t = omega (arith, ints, successor_times i t) in z) e)

pub number_below : (indices : List ℕ) (dims : List (ℕ × ℤ × ℤ)) → AreIndices indices dims → number_of_item indices dims < product (shape_of dims)
number_below [] [] h = omega arith
number_below [] (dim ∷ dims) h = absurd h
number_below (i ∷ indices) [] h = absurd h
number_below (i ∷ indices) (dim ∷ dims) h = subst (λ n. i * product (shape_of dims) + number_of_item indices dims < n) (mul_comm (product (shape_of dims)) dim.0) (mul-add-lt i (product (shape_of dims)) (number_of_item indices dims) dim.0 h.0 (number_below indices dims h.1))

pub place_of_item : (indices : List ℕ) (dims : List (ℕ × ℤ × ℤ)) (p : ℤ) → AreIndices indices dims → slice_get (places dims p) (number_of_item indices dims) ≡ Some (p +ℤ offset_of indices dims)
place_of_item [] [] p h = ap (λ (q : ℤ). Some q) (let z : p ≡ p +ℤ pos 0 = omega (arith, ints) in z)
place_of_item [] (dim ∷ dims) p h = absurd h
place_of_item (i ∷ indices) [] p h = absurd h
place_of_item (i ∷ indices) (dim ∷ dims) p h =
    ap (λ xs. slice_get xs (i * product (shape_of dims) + number_of_item indices dims)) (places-cons dim dims p)
    ∙ item_in_blocks (places dims) (product (shape_of dims)) (length-places dims) dim.0 i (number_of_item indices dims) p dim.1 (p +ℤ (pos i *ℤ dim.1 +ℤ offset_of indices dims)) h.0 (number_below indices dims h.1)
    (place_of_item indices dims (p +ℤ pos i *ℤ dim.1) h.1 ∙ ap (λ (q : ℤ). Some q) (sym (plus_moves p (pos i *ℤ dim.1) (offset_of indices dims) (p +ℤ pos i *ℤ dim.1) refl)))

pub plus-0 : (n : ℤ) → n ≡ pos 0 +ℤ n
plus-0 n = omega (arith, ints)

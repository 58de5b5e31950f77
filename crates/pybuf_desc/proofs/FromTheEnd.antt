-- Positions by indices that may count from the end, one dimension after the other.
use Rattle.std.proofs.Common.{◌≡◌, ℕ, zero, suc, ◌+◌, ◌<◌, ◌≤◌, ℤ, pos, negsuc, ◌+ℤ◌, ◌*ℤ◌, List, [], ◌∷◌, length, get_or, drop, drop-cons, drop_of_length-le, add-one, refl, ap, ap₂, sym, ◌∙◌, subst, arith, Result, Ok, Err, Some, Contains, slice_get, All, ◌≢◌, pos_of_ne-zero}
use Rattle.std.proofs.lemmas.Int.{ints}
use Rattle.pybuf_index.specs.Facts.{entry_below}
use Rattle.pybuf_value.specs.declared.faults.Fault.{Fault}
use Rattle.pybuf_value.specs.declared.faults.Fault.TheVariants as fault
use Rattle.pybuf_value.specs.Refusing.{◌>>=◌}
use Rattle.pybuf_index.specs.Places.{item_place, entry_in}
use Rattle.pybuf_desc.specs.Places.{places}
use Rattle.pybuf_desc.specs.Positions.{AreIndices, offset_of, number_of_item, position_of}
use Rattle.pybuf_desc.proofs.Indices.{position_from, place_of_item}
use Rattle.pybuf_desc.proofs.Moves.{dim_at}
use Rattle.pybuf_desc.proofs.Products.{AreNonzero, AreNonzero-from_All}

below : (n : ℕ) (z : ℤ) (i : ℕ) → item_place n z ≡ Some i → i < n
below n (pos k) i e = grind (arith, e)
below n (negsuc k) i e = grind (arith, e)

-- the step of the first dimension
abbrev pub after_first : Result ℕ Fault → ℤ → Result ℤ Fault → Result ℤ Fault
after_first (Ok i) stride (Ok others) = Ok (pos i *ℤ stride +ℤ others)
after_first (Ok i) stride (Err f) = Err f
after_first (Err f) stride others = Err f

in_order : (w : Result ℕ Fault) (r : Result ℤ Fault) (stride : ℤ) → (w >>= (λ first. r >>= (λ others. Ok (pos first *ℤ stride +ℤ others)))) ≡ after_first w stride r
in_order (Ok i) (Ok n) stride = refl
in_order (Ok i) (Err f) stride = refl
in_order (Err f) r stride = refl

position-cons : (index : ℤ) (indices : List ℤ) (dim : ℕ × ℤ × ℤ) (dims : List (ℕ × ℤ × ℤ)) → position_of (index ∷ indices) (dim ∷ dims) ≡ after_first (entry_in dim.0 index) dim.1 (position_of indices dims)
position-cons index indices dim dims = in_order (entry_in dim.0 index) (position_of indices dims) dim.1

plus_assoc : (a b c : ℤ) → a +ℤ (b +ℤ c) ≡ a +ℤ b +ℤ c
plus_assoc a b c = omega (arith, ints)

position_from-after : (offset : ℤ) (i : ℕ) (stride : ℤ) (r : Result ℤ Fault) → position_from offset (after_first (Ok i) stride r) ≡ position_from (offset +ℤ pos i *ℤ stride) r
position_from-after offset i stride (Ok n) = ap (λ (k : ℤ). Ok k) (plus_assoc offset (pos i *ℤ stride) n)
position_from-after offset i stride (Err f) = refl

position_at : (indices : List ℤ) (dims : List (ℕ × ℤ × ℤ)) (k : ℕ) → length indices ≡ length dims → k < length dims
    → position_of (drop k indices) (drop k dims) ≡ after_first (entry_in (dim_at dims k).0 (get_or indices k (pos 0))) (dim_at dims k).1 (position_of (drop (k + 1) indices) (drop (k + 1) dims))
position_at indices dims k e h =
    rw add-one (ap₂ (λ is ds. position_of is ds) (drop-cons indices k (pos 0) (omega arith)) (drop-cons dims k (0, pos 0, pos 0) h)
    ∙ position-cons (get_or indices k (pos 0)) (drop (suc k) indices) (dim_at dims k) (drop (suc k) dims))

pub position_more : (indices : List ℤ) (dims : List (ℕ × ℤ × ℤ)) (k i : ℕ) (offset next : ℤ) (whole : Result ℤ Fault) → length indices ≡ length dims → k < length dims
    → entry_in (dim_at dims k).0 (get_or indices k (pos 0)) ≡ Ok i → next ≡ offset +ℤ pos i *ℤ (dim_at dims k).1
    → whole ≡ position_from offset (position_of (drop k indices) (drop k dims)) → whole ≡ position_from next (position_of (drop (k + 1) indices) (drop (k + 1) dims))
position_more indices dims k i offset next whole e h w n q =
    q ∙ ap (position_from offset) (position_at indices dims k e h ∙ ap (λ r. after_first r (dim_at dims k).1 (position_of (drop (k + 1) indices) (drop (k + 1) dims))) w)
    ∙ position_from-after offset i (dim_at dims k).1 (position_of (drop (k + 1) indices) (drop (k + 1) dims))
    ∙ ap (λ m. position_from m (position_of (drop (k + 1) indices) (drop (k + 1) dims))) (sym n)

pub position_refused : (indices : List ℤ) (dims : List (ℕ × ℤ × ℤ)) (k : ℕ) (offset : ℤ) (f : Fault) (whole : Result ℤ Fault) → length indices ≡ length dims → k < length dims
    → entry_in (dim_at dims k).0 (get_or indices k (pos 0)) ≡ Err f
    → whole ≡ position_from offset (position_of (drop k indices) (drop k dims)) → whole ≡ Err f
position_refused indices dims k offset f whole e h w q =
    q ∙ ap (position_from offset) (position_at indices dims k e h ∙ ap (λ r. after_first r (dim_at dims k).1 (position_of (drop (k + 1) indices) (drop (k + 1) dims))) w)

position_none : (indices : List ℤ) (offset : ℤ) → position_from offset (position_of indices []) ≡ Ok offset
position_none [] offset = ap (λ (k : ℤ). Ok k) (let e : offset +ℤ pos 0 ≡ offset = omega (arith, ints) in e)
position_none (i ∷ indices) offset = ap (λ (k : ℤ). Ok k) (let e : offset +ℤ pos 0 ≡ offset = omega (arith, ints) in e)

pub position_end : (indices : List ℤ) (dims : List (ℕ × ℤ × ℤ)) (k : ℕ) (offset : ℤ) (whole : Result ℤ Fault) → length dims ≤ k
    → whole ≡ position_from offset (position_of (drop k indices) (drop k dims)) → whole ≡ Ok offset
position_end indices dims k offset whole h q =
    q ∙ ap (λ ds. position_from offset (position_of (drop k indices) ds)) (drop_of_length-le dims h) ∙ position_none (drop k indices) offset

none_named : (z : ℤ) → entry_in 0 z ≡ Err fault.Index
none_named (pos k) = grind arith
none_named (negsuc k) = grind arith

pub position_of_none : (indices : List ℤ) (dims : List (ℕ × ℤ × ℤ)) → length indices ≡ length dims → 0 < length dims → (dim_at dims 0).0 ≡ 0 → position_of indices dims ≡ Err fault.Index
position_of_none indices [] e h z = absurd (omega arith)
position_of_none [] (dim ∷ dims) e h z = absurd (let wrong : 0 ≡ length (dim ∷ dims) = e in omega arith)
position_of_none (i ∷ indices) (dim ∷ dims) e h z =
    position-cons i indices dim dims ∙ ap (λ r. after_first r dim.1 (position_of indices dims)) (ap (λ n. entry_in n i) z ∙ none_named i)

-- ---- a position is an item's place less the start

pub record Found (dims : List (ℕ × ℤ × ℤ)) (offset : ℤ) : Type 0 where
  pub indices : List ℕ
  pub in_range : AreIndices indices dims
  pub sum : offset_of indices dims ≡ offset

found-cons : (dim : ℕ × ℤ × ℤ) (dims : List (ℕ × ℤ × ℤ)) (w : Result ℕ Fault) (r : Result ℤ Fault) (offset : ℤ) → ((i : ℕ) → w ≡ Ok i → i < dim.0) → ((o : ℤ) → r ≡ Ok o → Found dims o) → after_first w dim.1 r ≡ Ok offset → Found (dim ∷ dims) offset
found-cons dim dims (Ok i) (Ok o) offset below others e =
    let f : Found dims o = others o refl in
    let sum : pos i *ℤ dim.1 +ℤ o ≡ offset = cc in
    record { indices = i ∷ f.indices; in_range = (below i refl, f.in_range); sum = ap (λ n. pos i *ℤ dim.1 +ℤ n) f.sum ∙ sum }
found-cons dim dims (Ok i) (Err f) offset below others e = absurd (cc)
found-cons dim dims (Err f) r offset below others e = absurd (cc)

pub found : (indices : List ℤ) (dims : List (ℕ × ℤ × ℤ)) (offset : ℤ) → length indices ≡ length dims → position_of indices dims ≡ Ok offset → Found dims offset
found [] [] offset e q = record { indices = []; in_range = tt; sum = cc }
found [] (dim ∷ dims) offset e q = absurd (let wrong : 0 ≡ length (dim ∷ dims) = e in omega arith)
found (i ∷ indices) [] offset e q = absurd (let wrong : length (i ∷ indices) ≡ 0 = e in omega arith)
found (i ∷ indices) (dim ∷ dims) offset e q =
    found-cons dim dims (entry_in dim.0 i) (position_of indices dims) offset (entry_below dim.0 i) (λ o p. found indices dims o (let l : length (i ∷ indices) ≡ length (dim ∷ dims) = e in omega arith) p) (sym (position-cons i indices dim dims) ∙ q)

contains_from_get : (xs : List ℤ) (k : ℕ) (x : ℤ) → slice_get xs k ≡ Some x → Contains xs x
contains_from_get [] k x e = absurd (cc)
contains_from_get (y ∷ xs) zero x e = (0, omega arith, cc)
contains_from_get (y ∷ xs) (suc k) x e =
    let rest : Contains xs x = contains_from_get xs k x e in (suc rest.0, (let h = rest.1 in omega arith), rest.2)

pub position_is_place : (indices : List ℤ) (dims : List (ℕ × ℤ × ℤ)) (offset : ℤ) → length indices ≡ length dims → position_of indices dims ≡ Ok offset → (start : ℤ) → Contains (places dims start) (start +ℤ offset)
position_is_place indices dims offset e q start =
    let f : Found dims offset = found indices dims offset e q in
    contains_from_get (places dims start) (number_of_item f.indices dims) (start +ℤ offset) (place_of_item f.indices dims start f.in_range ∙ ap (λ (n : ℤ). Some (start +ℤ n)) f.sum)

pub first_dim : (dims : List (ℕ × ℤ × ℤ)) (d : ℕ × ℤ × ℤ) → Some d ≡ slice_get dims 0 → (0 < length dims) × (dim_at dims 0 ≡ d)
first_dim [] d e = absurd (cc)
first_dim (dim ∷ dims) d e = (omega arith, cc)

pub AreNonzero-from_later : (dims : List (ℕ × ℤ × ℤ)) (d : ℕ × ℤ × ℤ) → Some d ≡ slice_get dims 0 → d.0 ≢ 0 → All (λ dim. 0 < dim.0) (drop 1 dims) → AreNonzero dims
AreNonzero-from_later [] d e some later = tt
AreNonzero-from_later (dim ∷ dims) d e some later =
    let same : d ≡ dim = cc in
    (subst (λ (x : ℕ × ℤ × ℤ). 0 < x.0) same (pos_of_ne-zero some), AreNonzero-from_All dims later)

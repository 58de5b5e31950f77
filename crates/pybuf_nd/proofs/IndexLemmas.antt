-- Lists of all indices, and what stands at the number of each of them.
use Rattle.std.proofs.Common.{◌≡◌, ℕ, zero, suc, ◌+◌, ◌*◌, ◌<◌, ◌≤◌, ℤ, pos, ◌+ℤ◌, ◌*ℤ◌, List, [], ◌∷◌, ◌++◌, length, get_or, map, flat_map, refl, ap, ap₂, sym, ◌∙◌, subst, arith, All, length-append, mul_comm, zero-mul, get_or-append-add}
use Rattle.std.specs.List.{range_with_len}
use Rattle.std.proofs.lemmas.Int.{ints}
use Rattle.std.proofs.lemmas.Nat.{mul-add-lt}
use Rattle.std.proofs.lemmas.List.{get_or_append_left}
use Rattle.std.proofs.lemmas.List.Elements.{All-nil, All-append}
use Rattle.std.proofs.lemmas.Simd.{map-map}
use Rattle.pybuf_lemmas.proofs.Lists.{flat_map_same, map_of_flat_map, map_same}
use Rattle.pybuf_lemmas.proofs.Integers.{sum_associates}
use Rattle.pybuf_desc.specs.Layouts.{product}
use Rattle.pybuf_desc.specs.Descriptor.{shape_of}
use Rattle.pybuf_desc.specs.Places.{places}
use Rattle.pybuf_desc.specs.Positions.{offset_of}
use Rattle.pybuf_desc.specs.ColumnOrder.{number_at}
use Rattle.pybuf_nd.specs.IndexMaps.{IsIndexList, index_lists}

-- ---- flat maps

-- a flat map over the numbers from a place on, all of them below a bound
flat_range : {A : Type 0} (g h : ℕ → List A) (bound a n : ℕ) → a + n ≤ bound → ((k : ℕ) → k < bound → g k ≡ h k) → flat_map g (range_with_len a n) ≡ flat_map h (range_with_len a n)
flat_range g h bound a zero fits e = refl
flat_range g h bound a (suc n) fits e =
    ap₂ (λ ys zs. ys ++ zs) (e a (omega arith)) (flat_range g h bound (a + 1) n (omega arith) e)

length_range : {A : Type 0} (g : ℕ → List A) (size a n : ℕ) → ((k : ℕ) → length (g k) ≡ size) → length (flat_map g (range_with_len a n)) ≡ n * size
length_range g size a zero each = sym (zero-mul size)
length_range g size a (suc n) each =
    length-append (g a) (flat_map g (range_with_len (a + 1) n)) ∙ (let one = each a in let rest = length_range g size (a + 1) n each in omega (arith, one, rest))

-- entry j of block i
block_at_range : {A : Type 0} (g : ℕ → List A) (size a n i j : ℕ) (d : A) → ((k : ℕ) → length (g k) ≡ size) → i < n → j < size
    → get_or (flat_map g (range_with_len a n)) (i * size + j) d ≡ get_or (g (a + i)) j d
block_at_range g size a zero i j d each h k = absurd (omega arith)
block_at_range g size a (suc n) zero j d each h k =
    ap (λ m. get_or (flat_map g (range_with_len a (suc n))) m d) (let e : zero * size + j ≡ j = omega arith in e)
    ∙ get_or_append_left (g a) (flat_map g (range_with_len (a + 1) n)) d j (let one = each a in omega (arith, one, k))
    ∙ ap (λ m. get_or (g m) j d) (let e : a ≡ a + zero = omega arith in e)
block_at_range g size a (suc n) (suc i) j d each h k =
    ap (λ m. get_or (flat_map g (range_with_len a (suc n))) m d) (let one = each a in let e : suc i * size + j ≡ length (g a) + (i * size + j) = omega (arith, one) in e)
    ∙ get_or-append-add (g a) (flat_map g (range_with_len (a + 1) n)) (i * size + j) d
    ∙ block_at_range g size (a + 1) n i j d each (omega arith) k
    ∙ ap (λ m. get_or (g m) j d) (let e : a + 1 + i ≡ a + suc i = omega arith in e)

all_range : {A : Type 0} (P : A → Type 0) (g : ℕ → List A) (bound a n : ℕ) → a + n ≤ bound → ((k : ℕ) → k < bound → All P (g k)) → All P (flat_map g (range_with_len a n))
all_range P g bound a zero fits all = All-nil P
all_range P g bound a (suc n) fits all =
    All-append P (g a) (flat_map g (range_with_len (a + 1) n)) (all a (omega arith)) (all_range P g bound (a + 1) n (omega arith) all)

-- ---- numbers of items

pub number_below : (shape indices : List ℕ) → IsIndexList shape indices → number_at shape indices < product shape
number_below [] [] h = omega arith
number_below [] (i ∷ indices) h = absurd h
number_below (n ∷ shape) [] h = absurd h
number_below (n ∷ shape) (i ∷ indices) h =
    subst (λ m. i * product shape + number_at shape indices < m) (mul_comm (product shape) n) (mul-add-lt i (product shape) (number_at shape indices) n h.0 (number_below shape indices h.1))

pub length_lists : {A : Type 0} (f : List ℕ → A) (shape : List ℕ) → length (map f (index_lists shape)) ≡ product shape
length_lists f [] = refl
length_lists f (n ∷ shape) =
    ap length (map_of_flat_map f (λ index. map (λ (indices : List ℕ). index ∷ indices) (index_lists shape)) (range_with_len 0 n))
    ∙ length_range (λ index. map f (map (λ (indices : List ℕ). index ∷ indices) (index_lists shape))) (product shape) 0 n
    (λ k. ap length (map-map f (λ (indices : List ℕ). k ∷ indices) (index_lists shape)) ∙ length_lists (λ indices. f (k ∷ indices)) shape)

-- what stands at the number of an item
pub item_at : {A : Type 0} (f : List ℕ → A) (shape indices : List ℕ) (d : A) → IsIndexList shape indices → get_or (map f (index_lists shape)) (number_at shape indices) d ≡ f indices
item_at f [] [] d h = refl
item_at f [] (i ∷ indices) d h = absurd h
item_at f (n ∷ shape) [] d h = absurd h
item_at f (n ∷ shape) (i ∷ indices) d h =
    ap (λ xs. get_or xs (i * product shape + number_at shape indices) d) (map_of_flat_map f (λ index. map (λ (rest : List ℕ). index ∷ rest) (index_lists shape)) (range_with_len 0 n))
    ∙ block_at_range (λ index. map f (map (λ (rest : List ℕ). index ∷ rest) (index_lists shape))) (product shape) 0 n i (number_at shape indices) d
    (λ k. ap length (map-map f (λ (rest : List ℕ). k ∷ rest) (index_lists shape)) ∙ length_lists (λ rest. f (k ∷ rest)) shape) h.0 (number_below shape indices h.1)
    ∙ ap (λ k. get_or (map f (map (λ (rest : List ℕ). k ∷ rest) (index_lists shape))) (number_at shape indices) d) (let e : 0 + i ≡ i = omega arith in e)
    ∙ ap (λ xs. get_or xs (number_at shape indices) d) (map-map f (λ (rest : List ℕ). i ∷ rest) (index_lists shape))
    ∙ item_at (λ rest. f (i ∷ rest)) shape indices d h.1

-- Two maps agree if they agree at all indices of the shape.
pub map_over : {A : Type 0} (f g : List ℕ → A) (shape : List ℕ) → ((indices : List ℕ) → IsIndexList shape indices → f indices ≡ g indices) → map f (index_lists shape) ≡ map g (index_lists shape)
map_over f g [] e = ap (λ y. y ∷ []) (e [] tt)
map_over f g (n ∷ shape) e =
    map_of_flat_map f (λ index. map (λ (rest : List ℕ). index ∷ rest) (index_lists shape)) (range_with_len 0 n)
    ∙ flat_range (λ index. map f (map (λ (rest : List ℕ). index ∷ rest) (index_lists shape))) (λ index. map g (map (λ (rest : List ℕ). index ∷ rest) (index_lists shape))) n 0 n (omega arith)
    (λ k below. map-map f (λ (rest : List ℕ). k ∷ rest) (index_lists shape) ∙ map_over (λ rest. f (k ∷ rest)) (λ rest. g (k ∷ rest)) shape (λ rest h. e (k ∷ rest) (below, h))
    ∙ sym (map-map g (λ (rest : List ℕ). k ∷ rest) (index_lists shape)))
    ∙ sym (map_of_flat_map g (λ index. map (λ (rest : List ℕ). index ∷ rest) (index_lists shape)) (range_with_len 0 n))

-- What holds at all indices of the shape holds of the whole list.
pub all_over : {A : Type 0} (P : A → Type 0) (f : List ℕ → A) (shape : List ℕ) → ((indices : List ℕ) → IsIndexList shape indices → P (f indices)) → All P (map f (index_lists shape))
all_over P f [] h = λ k d below. one P (f []) (h [] tt) k d below
  where
    one : {A : Type 0} (P : A → Type 0) (y : A) → P y → All P (y ∷ [])
    one P y p zero d below = p
    one P y p (suc k) d below = absurd (omega arith)
all_over P f (n ∷ shape) h =
    subst (All P) (sym (map_of_flat_map f (λ index. map (λ (rest : List ℕ). index ∷ rest) (index_lists shape)) (range_with_len 0 n)))
    (all_range P (λ index. map f (map (λ (rest : List ℕ). index ∷ rest) (index_lists shape))) n 0 n (omega arith)
    (λ k below. subst (All P) (sym (map-map f (λ (rest : List ℕ). k ∷ rest) (index_lists shape))) (all_over P (λ rest. f (k ∷ rest)) shape (λ rest g. h (k ∷ rest) (below, g)))))

pub at_of_all : {A : Type 0} (P : A → Type 0) (f : List ℕ → A) (shape indices : List ℕ) → All P (map f (index_lists shape)) → IsIndexList shape indices → P (f indices)
at_of_all P f shape indices all h =
    subst P (item_at f shape indices (f indices) h)
    (all (number_at shape indices) (f indices) (let below = number_below shape indices h in let whole = length_lists f shape in omega (arith, below, whole)))

-- ---- places

-- the place at each of the indices
pub places_by_indices : (dims : List (ℕ × ℤ × ℤ)) (start : ℤ) → places dims start ≡ map (λ indices. start +ℤ offset_of indices dims) (index_lists (shape_of dims))
places_by_indices [] start = ap (λ (q : ℤ). q ∷ []) (let e : start ≡ start +ℤ pos 0 = omega (arith, ints) in e)
places_by_indices (dim ∷ dims) start =
    flat_map_same (λ index. places dims (start +ℤ pos index *ℤ dim.1)) (λ index. map (λ indices. start +ℤ offset_of indices (dim ∷ dims)) (map (λ (rest : List ℕ). index ∷ rest) (index_lists (shape_of dims)))) (range_with_len 0 dim.0)
    (λ k. places_by_indices dims (start +ℤ pos k *ℤ dim.1)
    ∙ map_same (λ rest. start +ℤ pos k *ℤ dim.1 +ℤ offset_of rest dims) (λ rest. start +ℤ offset_of (k ∷ rest) (dim ∷ dims)) (index_lists (shape_of dims)) (λ rest. sum_associates start (pos k *ℤ dim.1) (offset_of rest dims))
    ∙ sym (map-map (λ indices. start +ℤ offset_of indices (dim ∷ dims)) (λ (rest : List ℕ). k ∷ rest) (index_lists (shape_of dims))))
    ∙ sym (map_of_flat_map (λ indices. start +ℤ offset_of indices (dim ∷ dims)) (λ index. map (λ (rest : List ℕ). index ∷ rest) (index_lists (shape_of dims))) (range_with_len 0 dim.0))

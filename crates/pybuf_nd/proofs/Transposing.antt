-- The transposition, and the items in column order.
use Rattle.std.proofs.Common.{◌≡◌, ℕ, zero, suc, ◌+◌, ◌*◌, ◌<◌, ◌≤◌, List, [], ◌∷◌, ◌++◌, length, get_or, set, reverse, map, flat_map, refl, ap, ap₂, sym, ◌∙◌, subst, arith, add_assoc}
use Rattle.std.specs.List.{range_with_len}
use Rattle.std.proofs.lemmas.List.{length-map, length-reverse, reverse-append, reverse-reverse, append-nil}
use Rattle.std.proofs.lemmas.List.Concat.{flat_map_single}
use Rattle.std.proofs.lemmas.List.FromFn.{length-range_with_len}
use Rattle.std.proofs.lemmas.List.Folds.{flat_map-map}
use Rattle.std.proofs.lemmas.Grind.{flat_map-append}
use Rattle.std.proofs.lemmas.Simd.{map-map}
use Rattle.pybuf_lemmas.proofs.Numbers.{range_with_one_more}
use Rattle.pybuf_lemmas.proofs.Lists.{flat_map_same, map_of_flat_map, map_same, map_of_reverse, reverse_cons}
use Rattle.pybuf_desc.specs.Layouts.{Layout, HasItemsOfItsShape, product}
use Rattle.pybuf_desc.specs.Items.{bytes_of_items, content_of_layout}
use Rattle.pybuf_desc.specs.ColumnOrder.{number_at, start_at, column_index_lists, column_starts}
use Rattle.pybuf_nd.specs.IndexMaps.{IsIndexList, index_lists}
use Rattle.pybuf_nd.specs.Axes.{reversed_axes, put_at_axes, indices_by_axis, transposition_of}
use Rattle.pybuf_nd.proofs.IndexLemmas.{item_at, map_over}

-- ---- the reversed axes put the indices in the reversed order

abbrev zero_of : ℕ → ℕ
zero_of k = 0

axes_snoc : (n : ℕ) → reversed_axes (suc n) ≡ n ∷ reversed_axes n
axes_snoc n =
    ap reverse (range_with_one_more 0 n) ∙ reverse-append (range_with_len 0 n) ((0 + n) ∷ []) ∙ ap (λ k. k ∷ reverse (range_with_len 0 n)) (let e : 0 + n ≡ n = omega arith in e)

set_front : (xs ys : List ℕ) (k y : ℕ) → k < length xs → set (xs ++ ys) k y ≡ set xs k y ++ ys
set_front [] ys k y h = absurd (omega (arith, h))
set_front (x ∷ xs) ys zero y h = refl
set_front (x ∷ xs) ys (suc k) y h = ap (λ (zs : List ℕ). x ∷ zs) (set_front xs ys k y (omega (arith, h)))

set_end : (xs : List ℕ) (x y : ℕ) → set (xs ++ x ∷ []) (length xs) y ≡ xs ++ y ∷ []
set_end [] x y = refl
set_end (z ∷ xs) x y = ap (λ (zs : List ℕ). z ∷ zs) (set_end xs x y)

zeros_snoc : (n : ℕ) → map zero_of (reversed_axes (suc n)) ≡ map zero_of (reversed_axes n) ++ 0 ∷ []
zeros_snoc n = ap (map zero_of) (axes_snoc n) ∙ zeros_turn (reversed_axes n)
  where
    zeros_turn : (xs : List ℕ) → 0 ∷ map zero_of xs ≡ map zero_of xs ++ 0 ∷ []
    zeros_turn [] = refl
    zeros_turn (x ∷ xs) = ap (λ (zs : List ℕ). 0 ∷ zs) (zeros_turn xs)

length_axes : (n : ℕ) → length (reversed_axes n) ≡ n
length_axes n = length-reverse (range_with_len 0 n) ∙ length-range_with_len 0 n

length_put : (axes indices made : List ℕ) → length (put_at_axes axes indices made) ≡ length made
length_put [] indices made = refl
length_put (axis ∷ axes) [] made = refl
length_put (axis ∷ axes) (index ∷ indices) made = length_after (put_at_axes axes indices made) axis index ∙ length_put axes indices made
  where
    length_after : (xs : List ℕ) (k y : ℕ) → length (set xs k y) ≡ length xs
    length_after [] k y = refl
    length_after (x ∷ xs) zero y = refl
    length_after (x ∷ xs) (suc k) y = ap suc (length_after xs k y)

-- If only entries before the last are set, the last stays.
put_front : (n m : ℕ) (indices made : List ℕ) (z : ℕ) → m ≤ n → length made ≡ n → put_at_axes (reversed_axes m) indices (made ++ z ∷ []) ≡ put_at_axes (reversed_axes m) indices made ++ z ∷ []
put_front n zero indices made z few e = refl
put_front n (suc m) [] made z few e =
    ap (λ axes. put_at_axes axes [] (made ++ z ∷ [])) (axes_snoc m) ∙ ap (λ axes. put_at_axes axes [] made ++ z ∷ []) (sym (axes_snoc m))
put_front n (suc m) (index ∷ indices) made z few e =
    ap (λ axes. put_at_axes axes (index ∷ indices) (made ++ z ∷ [])) (axes_snoc m)
    ∙ ap (λ (xs : List ℕ). set xs m index) (put_front n m indices made z (omega (arith, few)) e)
    ∙ set_front (put_at_axes (reversed_axes m) indices made) (z ∷ []) m index (let long = length_put (reversed_axes m) indices made in omega (arith, long, e, few))
    ∙ ap (λ axes. put_at_axes axes (index ∷ indices) made ++ z ∷ []) (sym (axes_snoc m))

put_reversed : (n : ℕ) (indices : List ℕ) → length indices ≡ n → indices_by_axis (reversed_axes n) indices ≡ reverse indices
put_reversed zero [] e = refl
put_reversed zero (index ∷ indices) e = absurd (omega (arith, e))
put_reversed (suc n) [] e = absurd (omega (arith, e))
put_reversed (suc n) (index ∷ indices) e =
    let zeros : List ℕ = map zero_of (reversed_axes n) in
    let long : length zeros ≡ n = length-map (reversed_axes n) zero_of ∙ length_axes n in
    let rest : length indices ≡ n = omega (arith, e) in
    ap₂ (λ axes made. put_at_axes axes (index ∷ indices) made) (axes_snoc n) (zeros_snoc n)
    ∙ ap (λ (xs : List ℕ). set xs n index) (put_front n n indices zeros 0 (omega arith) long ∙ ap (λ (xs : List ℕ). xs ++ 0 ∷ []) (put_reversed n indices rest))
    ∙ ap (λ k. set (reverse indices ++ 0 ∷ []) k index) (sym (length-reverse indices ∙ rest))
    ∙ set_end (reverse indices) 0 index
    ∙ sym (reverse_cons index indices)

-- ---- indices of the reversed shape

append_index : (shape other indices more : List ℕ) → IsIndexList shape indices → IsIndexList other more → IsIndexList (shape ++ other) (indices ++ more)
append_index [] other [] more h g = g
append_index [] other (i ∷ indices) more h g = absurd h
append_index (n ∷ shape) other [] more h g = absurd h
append_index (n ∷ shape) other (i ∷ indices) more h g = (h.0, append_index shape other indices more h.1 g)

reverse_index : (shape indices : List ℕ) → IsIndexList shape indices → IsIndexList (reverse shape) (reverse indices)
reverse_index [] [] h = tt
reverse_index [] (i ∷ indices) h = absurd h
reverse_index (n ∷ shape) [] h = absurd h
reverse_index (n ∷ shape) (i ∷ indices) h =
    subst (λ (ns : List ℕ). IsIndexList ns (reverse (i ∷ indices))) (sym (reverse_cons n shape))
    (subst (λ (is : List ℕ). IsIndexList (reverse shape ++ n ∷ []) is) (sym (reverse_cons i indices)) (append_index (reverse shape) (n ∷ []) (reverse indices) (i ∷ []) (reverse_index shape indices h.1) (h.0, tt)))

length_index : (shape indices : List ℕ) → IsIndexList shape indices → length indices ≡ length shape
length_index [] [] h = refl
length_index [] (i ∷ indices) h = absurd h
length_index (n ∷ shape) [] h = absurd h
length_index (n ∷ shape) (i ∷ indices) h = ap suc (length_index shape indices h.1)

-- the shape of the transposition
entries_shifted : (f g : ℕ → ℕ) (a n : ℕ) → ((k : ℕ) → f (suc k) ≡ g k) → map f (range_with_len (suc a) n) ≡ map g (range_with_len a n)
entries_shifted f g a zero e = refl
entries_shifted f g a (suc n) e =
    ap₂ (λ (y : ℕ) (ys : List ℕ). y ∷ ys) (e a) (ap (λ m. map f (range_with_len m n)) (let h : suc a + 1 ≡ suc (a + 1) = omega arith in h) ∙ entries_shifted f g (a + 1) n e)

all_entries : (xs : List ℕ) → map (λ k. get_or xs k 0) (range_with_len 0 (length xs)) ≡ xs
all_entries [] = refl
all_entries (x ∷ xs) =
    ap (λ (ys : List ℕ). x ∷ ys)
    (ap (λ m. map (λ k. get_or (x ∷ xs) k 0) (range_with_len m (length xs))) (let h : 0 + 1 ≡ suc 0 = omega arith in h)
    ∙ entries_shifted (λ k. get_or (x ∷ xs) k 0) (λ k. get_or xs k 0) 0 (length xs) (λ k. refl) ∙ all_entries xs)

pub shape_transposed : (view : Layout) → (transposition_of view).shape ≡ reverse view.shape
shape_transposed view = map_of_reverse (λ axis. get_or view.shape axis 0) (range_with_len 0 (length view.shape)) ∙ ap reverse (all_entries view.shape)

-- the item of the transposition at some indices
starts_transposed : (view : Layout) → (transposition_of view).starts ≡ map (λ indices. start_at view (reverse indices)) (index_lists (reverse view.shape))
starts_transposed view =
    ap (λ (shape : List ℕ). map (λ indices. start_at view (indices_by_axis (reversed_axes (length view.shape)) indices)) (index_lists shape)) (shape_transposed view)
    ∙ map_over (λ indices. start_at view (indices_by_axis (reversed_axes (length view.shape)) indices)) (λ indices. start_at view (reverse indices)) (reverse view.shape)
    (λ indices h. ap (start_at view) (put_reversed (length view.shape) indices (length_index (reverse view.shape) indices h ∙ length-reverse view.shape)))

-- ---- a transposition of a transposition

-- all numbers of items, in order
numbers_from : (shape : List ℕ) (a : ℕ) → map (λ indices. a + number_at shape indices) (index_lists shape) ≡ range_with_len a (product shape)
numbers_from [] a = ap (λ k. k ∷ []) (let e : a + 0 ≡ a = omega arith in e)
numbers_from (n ∷ shape) a =
    map_of_flat_map (λ indices. a + number_at (n ∷ shape) indices) (λ index. map (λ (rest : List ℕ). index ∷ rest) (index_lists shape)) (range_with_len 0 n)
    ∙ flat_map_same (λ index. map (λ indices. a + number_at (n ∷ shape) indices) (map (λ (rest : List ℕ). index ∷ rest) (index_lists shape))) (λ index. range_with_len (a + index * product shape) (product shape)) (range_with_len 0 n)
    (λ k. map-map (λ indices. a + number_at (n ∷ shape) indices) (λ (rest : List ℕ). k ∷ rest) (index_lists shape)
    ∙ map_same (λ rest. a + (k * product shape + number_at shape rest)) (λ rest. a + k * product shape + number_at shape rest) (index_lists shape) (λ rest. sym (add_assoc a (k * product shape) (number_at shape rest)))
    ∙ numbers_from shape (a + k * product shape))
    ∙ blocks (product shape) a 0 n
    ∙ ap (λ k. range_with_len k (n * product shape)) (let e : a + 0 * product shape ≡ a = omega arith in e)
  where
    append_range : (b m k : ℕ) → range_with_len b m ++ range_with_len (b + m) k ≡ range_with_len b (m + k)
    append_range b zero k = ap₂ range_with_len (let e : b + zero ≡ b = omega arith in e) (let e : k ≡ zero + k = omega arith in e)
    append_range b (suc m) k =
        ap (λ (ks : List ℕ). b ∷ ks) (ap (λ c. range_with_len (b + 1) m ++ range_with_len c k) (let e : b + suc m ≡ b + 1 + m = omega arith in e) ∙ append_range (b + 1) m k)
        ∙ ap (range_with_len b) (let e : suc (m + k) ≡ suc m + k = omega arith in e)

    blocks : (size b j m : ℕ) → flat_map (λ index. range_with_len (b + index * size) size) (range_with_len j m) ≡ range_with_len (b + j * size) (m * size)
    blocks size b j zero = ap (range_with_len (b + j * size)) (let e : 0 ≡ zero * size = omega arith in e)
    blocks size b j (suc m) =
        ap (λ (ks : List ℕ). range_with_len (b + j * size) size ++ ks) (blocks size b (j + 1) m ∙ ap (λ c. range_with_len c (m * size)) (let e : b + (j + 1) * size ≡ b + j * size + size = omega arith in e))
        ∙ append_range (b + j * size) size (m * size) ∙ ap (range_with_len (b + j * size)) (let e : size + m * size ≡ suc m * size = omega arith in e)

pub starts_by_indices : (view : Layout) → HasItemsOfItsShape view → map (λ indices. start_at view indices) (index_lists view.shape) ≡ view.starts
starts_by_indices view whole =
    map_same (λ indices. start_at view indices) (λ indices. get_or view.starts (0 + number_at view.shape indices) 0) (index_lists view.shape)
    (λ indices. ap (λ k. get_or view.starts k 0) (let e : number_at view.shape indices ≡ 0 + number_at view.shape indices = omega arith in e))
    ∙ sym (map-map (λ k. get_or view.starts k 0) (λ indices. 0 + number_at view.shape indices) (index_lists view.shape))
    ∙ ap (map (λ k. get_or view.starts k 0)) (numbers_from view.shape 0)
    ∙ ap (λ n. map (λ k. get_or view.starts k 0) (range_with_len 0 n)) (sym whole)
    ∙ all_entries view.starts

pub transposed_twice : (view : Layout) → HasItemsOfItsShape view → (transposition_of (transposition_of view)).starts ≡ view.starts
transposed_twice view whole =
    let turned : Layout = transposition_of view in
    let back : reverse turned.shape ≡ view.shape = ap reverse (shape_transposed view) ∙ reverse-reverse view.shape in
    starts_transposed turned
    ∙ ap (λ (shape : List ℕ). map (λ indices. start_at turned (reverse indices)) (index_lists shape)) back
    ∙ map_over (λ indices. start_at turned (reverse indices)) (λ indices. start_at view indices) view.shape (λ indices h. item_turned view indices h)
    ∙ starts_by_indices view whole
  where
    item_turned : (view : Layout) (indices : List ℕ) → IsIndexList view.shape indices → start_at (transposition_of view) (reverse indices) ≡ start_at view indices
    item_turned view indices h =
        ap₂ (λ (starts shape : List ℕ). get_or starts (number_at shape (reverse indices)) 0) (starts_transposed view) (shape_transposed view)
        ∙ item_at (λ is. start_at view (reverse is)) (reverse view.shape) (reverse indices) 0 (reverse_index view.shape indices h)
        ∙ ap (start_at view) (reverse-reverse indices)

-- ---- column order

flat_map_of_flat_map : {X Y Z : Type 0} (f : Y → List Z) (g : X → List Y) (xs : List X) → flat_map f (flat_map g xs) ≡ flat_map (λ x. flat_map f (g x)) xs
flat_map_of_flat_map f g [] = refl
flat_map_of_flat_map f g (x ∷ xs) = flat_map-append f (g x) (flat_map g xs) ∙ ap (λ zs. flat_map f (g x) ++ zs) (flat_map_of_flat_map f g xs)

lists_snoc : (shape : List ℕ) (n : ℕ) → index_lists (shape ++ n ∷ []) ≡ flat_map (λ (indices : List ℕ). map (λ k. indices ++ k ∷ []) (range_with_len 0 n)) (index_lists shape)
lists_snoc [] n = flat_map_single (λ k. k ∷ []) (range_with_len 0 n) ∙ sym (append-nil (map (λ k. k ∷ []) (range_with_len 0 n)))
lists_snoc (m ∷ shape) n =
    flat_map_same (λ index. map (λ (rest : List ℕ). index ∷ rest) (index_lists (shape ++ n ∷ []))) (λ index. flat_map (λ (indices : List ℕ). map (λ k. indices ++ k ∷ []) (range_with_len 0 n)) (map (λ (rest : List ℕ). index ∷ rest) (index_lists shape))) (range_with_len 0 m)
    (λ index. ap (map (λ (rest : List ℕ). index ∷ rest)) (lists_snoc shape n)
    ∙ map_of_flat_map (λ (rest : List ℕ). index ∷ rest) (λ (indices : List ℕ). map (λ k. indices ++ k ∷ []) (range_with_len 0 n)) (index_lists shape)
    ∙ flat_map_same (λ (indices : List ℕ). map (λ (rest : List ℕ). index ∷ rest) (map (λ k. indices ++ k ∷ []) (range_with_len 0 n))) (λ (indices : List ℕ). map (λ k. (index ∷ indices) ++ k ∷ []) (range_with_len 0 n)) (index_lists shape)
    (λ indices. map-map (λ (rest : List ℕ). index ∷ rest) (λ k. indices ++ k ∷ []) (range_with_len 0 n))
    ∙ sym (flat_map-map (λ (indices : List ℕ). map (λ k. indices ++ k ∷ []) (range_with_len 0 n)) (λ (rest : List ℕ). index ∷ rest) (index_lists shape)))
    ∙ sym (flat_map_of_flat_map (λ (indices : List ℕ). map (λ k. indices ++ k ∷ []) (range_with_len 0 n)) (λ index. map (λ (rest : List ℕ). index ∷ rest) (index_lists shape)) (range_with_len 0 m))

lists_reversed : (shape : List ℕ) → map reverse (index_lists (reverse shape)) ≡ column_index_lists shape
lists_reversed [] = refl
lists_reversed (n ∷ shape) =
    ap (λ (ns : List ℕ). map reverse (index_lists ns)) (reverse_cons n shape)
    ∙ ap (map reverse) (lists_snoc (reverse shape) n)
    ∙ map_of_flat_map reverse (λ (indices : List ℕ). map (λ k. indices ++ k ∷ []) (range_with_len 0 n)) (index_lists (reverse shape))
    ∙ flat_map_same (λ (indices : List ℕ). map reverse (map (λ k. indices ++ k ∷ []) (range_with_len 0 n))) (λ (indices : List ℕ). map (λ k. k ∷ reverse indices) (range_with_len 0 n)) (index_lists (reverse shape))
    (λ indices. map-map reverse (λ k. indices ++ k ∷ []) (range_with_len 0 n) ∙ map_same (λ k. reverse (indices ++ k ∷ [])) (λ k. k ∷ reverse indices) (range_with_len 0 n) (λ k. reverse-append indices (k ∷ [])))
    ∙ sym (flat_map-map (λ (indices : List ℕ). map (λ k. k ∷ indices) (range_with_len 0 n)) reverse (index_lists (reverse shape)))
    ∙ ap (flat_map (λ (indices : List ℕ). map (λ k. k ∷ indices) (range_with_len 0 n))) (lists_reversed shape)

pub column_content : (bytes : List ℕ) (view : Layout) → content_of_layout bytes (transposition_of view) ≡ bytes_of_items bytes view.itemsize (column_starts view)
column_content bytes view =
    ap (bytes_of_items bytes view.itemsize)
    (starts_transposed view ∙ sym (map-map (λ indices. start_at view indices) reverse (index_lists (reverse view.shape))) ∙ ap (map (λ indices. start_at view indices)) (lists_reversed view.shape))

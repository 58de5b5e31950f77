-- Items that lie one after the other, as one run of bytes.
use Rattle.std.proofs.Common.{◌≡◌, ℕ, zero, suc, ◌+◌, ◌*◌, ◌<◌, ◌≤◌, true, List, [], ◌∷◌, ◌++◌, length, map, take, drop, ap, ap₂, sym, ◌∙◌, refl, subst, arith}
use Rattle.std.specs.Prelude.{All, bytes_eq, slice_index}
use Rattle.std.specs.List.{flat_map, range_with_len}
use Rattle.std.proofs.lemmas.Slice.Eq.{bytes_eq-Decides}
use Rattle.std.proofs.lemmas.List.Elements.{All-head, All-tail, All-nil, All-append}
use Rattle.std.proofs.lemmas.List.FromFn.{length-range_with_len, get_or-range_with_len}
use Rattle.pybuf_lemmas.proofs.Numbers.{range_of_sum, range_inside}
use Rattle.pybuf_memoryview.specs.Facts.{bytes_counted}
use Rattle.pybuf_slice.specs.Facts.{run_of_bytes, elements_both}
use Rattle.pybuf_slice.specs.Reads.{elements_at}
use Rattle.pybuf_desc.specs.Contiguous.{starts_from, is_contiguous_layout}
use Rattle.pybuf_desc.specs.Layouts.{Layout, LiesInside, HasItemsOfItsShape}
use Rattle.pybuf_desc.specs.Items.{bytes_of_items, content_of_layout}
use Rattle.pybuf_memoryview.specs.Orders.{nbytes_of}
use Rattle.pybuf_memoryview.specs.Laws.{ContiguousItemsAreOneRun}

-- ---- items one after the other

run_from : (first size j n : ℕ) → flat_map (λ (s : ℕ). range_with_len s size) (map (λ k. first + k * size) (range_with_len j n)) ≡ range_with_len (first + j * size) (size * n)
run_from first size j zero = let none : size * 0 ≡ 0 = omega arith in sym (ap (range_with_len (first + j * size)) none)
run_from first size j (suc n) =
    let next : first + (j + 1) * size ≡ (first + j * size) + size = grind arith in
    let all : size * suc n ≡ size + size * n = grind arith in
    ap (λ (xs : List ℕ). range_with_len (first + j * size) size ++ xs) (run_from first size (j + 1) n ∙ ap (λ (k : ℕ). range_with_len k (size * n)) next)
    ∙ sym (range_of_sum (first + j * size) size (size * n)) ∙ ap (range_with_len (first + j * size)) (sym all)

run_of : (size : ℕ) (starts others : List ℕ) → others ≡ starts → starts ≡ starts_from others size (length starts) → flat_map (λ (s : ℕ). range_with_len s size) starts ≡ range_with_len (slice_index others 0) (size * length starts)
run_of size [] others same is = let none : size * 0 ≡ 0 = omega arith in sym (ap (range_with_len (slice_index others 0)) none)
run_of size (s ∷ starts) [] same is = absurd (cc)
run_of size (s ∷ starts) (o ∷ others) same is =
    let at : o + 0 * size ≡ o = omega arith in
    ap (flat_map (λ (x : ℕ). range_with_len x size)) is ∙ run_from o size 0 (length (s ∷ starts)) ∙ ap (λ (k : ℕ). range_with_len k (size * length (s ∷ starts))) at

one_after_the_other : (size : ℕ) (starts : List ℕ) → bytes_eq starts (starts_from starts size (length starts)) ≡ true → flat_map (λ (s : ℕ). range_with_len s size) starts ≡ range_with_len (slice_index starts 0) (size * length starts)
one_after_the_other size starts is = run_of size starts starts refl ((bytes_eq-Decides starts (starts_from starts size (length starts))).0 is)

pub one_run : ContiguousItemsAreOneRun
one_run layout is = one_after_the_other layout.itemsize layout.starts is

items_elements : (bytes : List ℕ) (size : ℕ) (starts : List ℕ) → bytes_of_items bytes size starts ≡ elements_at bytes (flat_map (λ (s : ℕ). range_with_len s size) starts)
items_elements bytes size [] = refl
items_elements bytes size (s ∷ starts) =
    ap₂ (λ (xs ys : List ℕ). xs ++ ys) (sym (run_of_bytes bytes s size)) (items_elements bytes size starts)
    ∙ sym (elements_both bytes (range_with_len s size) (flat_map (λ (x : ℕ). range_with_len x size) starts))

content_at_once : (bytes : List ℕ) (size : ℕ) (starts : List ℕ) → bytes_eq starts (starts_from starts size (length starts)) ≡ true
    → take (size * length starts) (drop (slice_index starts 0) bytes) ≡ bytes_of_items bytes size starts
content_at_once bytes size starts is =
    sym (run_of_bytes bytes (slice_index starts 0) (size * length starts)) ∙ ap (elements_at bytes) (sym (one_after_the_other size starts is)) ∙ sym (items_elements bytes size starts)

places_within : (room size : ℕ) (starts : List ℕ) → All (λ start. start + size ≤ room) starts → All (λ place. place < room) (flat_map (λ (s : ℕ). range_with_len s size) starts)
places_within room size [] all = All-nil (λ place. place < room)
places_within room size (s ∷ starts) all =
    All-append (λ place. place < room) (range_with_len s size) (flat_map (λ (x : ℕ). range_with_len x size) starts)
    (range_inside room s size (All-head (λ start. start + size ≤ room) s starts all)) (places_within room size starts (All-tail (λ start. start + size ≤ room) s starts all))

-- if each place of a run lies inside, the run ends inside
run_ends : (room start n : ℕ) → start ≤ room → All (λ place. place < room) (range_with_len start n) → start + n ≤ room
run_ends room start zero low all = omega (arith, low)
run_ends room start (suc n) low all =
    let last : n < suc n = omega arith in
    let below : n < length (range_with_len start (suc n)) = omega (arith, last, length-range_with_len start (suc n)) in
    omega (arith, all n 0 below, get_or-range_with_len start (suc n) n 0 last)

first_within : (room size : ℕ) (starts : List ℕ) → All (λ start. start + size ≤ room) starts → slice_index starts 0 ≤ room
first_within room size [] all = omega arith
first_within room size (s ∷ starts) all = omega (arith, All-head (λ start. start + size ≤ room) s starts all)

ends_within : (room size : ℕ) (starts : List ℕ) → bytes_eq starts (starts_from starts size (length starts)) ≡ true → All (λ start. start + size ≤ room) starts
    → slice_index starts 0 + size * length starts ≤ room
ends_within room size starts is all =
    run_ends room (slice_index starts 0) (size * length starts) (first_within room size starts all)
    (subst (All (λ place. place < room)) (one_after_the_other size starts is) (places_within room size starts all))

-- ---- whole views

pub content_from : (bytes : List ℕ) (layout : Layout) (from : ℕ) → HasItemsOfItsShape layout → is_contiguous_layout layout ≡ true → from ≡ slice_index layout.starts 0
    → take (nbytes_of layout) (drop from bytes) ≡ content_of_layout bytes layout
content_from bytes layout from counted flat at =
    ap₂ (λ (n k : ℕ). take n (drop k bytes)) (bytes_counted layout counted) at ∙ content_at_once bytes layout.itemsize layout.starts flat

pub ends_from : (room : ℕ) (layout : Layout) (from : ℕ) → HasItemsOfItsShape layout → is_contiguous_layout layout ≡ true → from ≡ slice_index layout.starts 0 → LiesInside room layout
    → from + nbytes_of layout ≤ room
ends_from room layout from counted flat at held = omega (arith, at, bytes_counted layout counted, ends_within room layout.itemsize layout.starts flat held)

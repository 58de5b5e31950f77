-- Views in which no two items share a byte.
use Rattle.std.proofs.Common.{◌≡◌, ◌≢◌, ◌⊎◌, inl, inr, ℕ, zero, suc, ◌+◌, ◌*◌, ◌/◌, ◌<◌, ◌≤◌, ℤ, pos, negsuc, List, [], ◌∷◌, ◌++◌, length, map, take, drop, get_or-take, get_or-drop, length-take, length-drop, All, AllPairs, IsTrue, sym, ◌∙◌, subst, arith}
use Rattle.std.proofs.lemmas.Int.{ints}
use Rattle.std.proofs.lemmas.Bool.{cases_lt}
use Rattle.std.proofs.lemmas.List.FromFn.{length-range_with_len, get_or-range_with_len, length-map-range_with_len, get_or-map-range_with_len}
use Rattle.std.proofs.lemmas.List.Elements.{All-nil, All-append, All-take, All-head, All-tail, All-from_get_or, All-get_or}
use Rattle.std.specs.Prelude.{slice_index}
use Rattle.std.specs.List.{range_with_len, flat_map}
use Rattle.pybuf_lemmas.proofs.Numbers.{item_ends_before_next, either_order_turned}
use Rattle.pybuf_index.specs.Picks.{comes_before}
use Rattle.pybuf_index.specs.Parts.{SliceParts, picks_of}
use Rattle.pybuf_desc.specs.Layouts.{Layout, product}
use Rattle.pybuf_desc.specs.Apart.{AreApart, HasItemsApart}
use Rattle.pybuf_desc.specs.Contiguous.{starts_from}
use Rattle.pybuf_desc.specs.Slices.{block_at, first_entry, slice_of}
use Rattle.pybuf_desc.specs.Laws.{WholeLayoutsLieApart, CastsLieApart, RowMajorLayoutsLieApart}
use Rattle.pybuf_desc.specs.Casts.{cast_count}

-- ---- items one after the other

-- items are apart if item k starts at a place plus k sizes
of_places : (size first : ℕ) (starts : List ℕ) → ((k : ℕ) → k < length starts → slice_index starts k ≡ first + k * size) → AreApart size starts
of_places size first starts at i j less inside =
    let ends : i * size + size ≤ j * size = item_ends_before_next i j size less in
    let one : slice_index starts i ≡ first + i * size = at i (omega (arith, less, inside)) in
    let two : slice_index starts j ≡ first + j * size = at j inside in
    inl (omega (arith, ends, one, two))

pub run_apart : (size first count : ℕ) → AreApart size (map (λ k. first + k * size) (range_with_len 0 count))
run_apart size first count =
    of_places size first (map (λ k. first + k * size) (range_with_len 0 count))
    (λ k inside. get_or-map-range_with_len (λ j. first + j * size) 0 count k k 0 (let few : k < count = subst (λ (n : ℕ). k < n) (length-map-range_with_len (λ j. first + j * size) 0 count) inside in few) (let same : 0 + k ≡ k = omega arith in same))

from_zero_apart : (size count : ℕ) → AreApart size (map (λ k. k * size) (range_with_len 0 count))
from_zero_apart size count =
    of_places size 0 (map (λ k. k * size) (range_with_len 0 count))
    (λ k inside. get_or-map-range_with_len (λ j. j * size) 0 count k k 0 (let few : k < count = subst (λ (n : ℕ). k < n) (length-map-range_with_len (λ j. j * size) 0 count) inside in few) (let same : 0 + k ≡ k = omega arith in same)
    ∙ (let none : k * size ≡ 0 + k * size = omega arith in none))

bytes_apart : (start count : ℕ) → AreApart 1 (range_with_len start count)
bytes_apart start count =
    of_places 1 start (range_with_len start count)
    (λ k inside. get_or-range_with_len start count k 0 (let few : k < count = subst (λ (n : ℕ). k < n) (length-range_with_len start count) inside in few)
    ∙ (let once : start + k ≡ start + k * 1 = omega arith in once))

pub whole_apart : WholeLayoutsLieApart
whole_apart = ((λ count readonly. bytes_apart 0 count), (λ start count readonly. bytes_apart start count))

starts_apart : (starts : List ℕ) (size count : ℕ) → AreApart size (starts_from starts size count)
starts_apart [] size count = λ i j less inside. absurd (omega (arith, inside))
starts_apart (first ∷ starts) size count = run_apart size first count

pub casts_apart : CastsLieApart
casts_apart = ((λ view format size. starts_apart view.starts size (cast_count view size)), (λ view format size shape. starts_apart view.starts size (product shape)))

pub row_major_apart : RowMajorLayoutsLieApart
row_major_apart view = from_zero_apart view.itemsize (product view.shape)

-- ---- the same by recursion

-- two items of a size share no byte
abbrev pub Clear : ℕ → ℕ → ℕ → Type 0
Clear size x y = (x + size ≤ y) ⊎ (y + size ≤ x)

abbrev pub Spread : ℕ → List ℕ → Type 0
Spread size [] = Unit {0}
Spread size (x ∷ xs) = All (Clear size x) xs × Spread size xs

spread_of : (size : ℕ) (xs : List ℕ) → AreApart size xs → Spread size xs
spread_of size [] apart = tt
spread_of size (x ∷ xs) apart = (
  All-from_get_or (Clear size x) xs 0 (λ k inside. apart 0 (suc k) (omega arith) (let there : suc k < length (x ∷ xs) = omega (arith, inside) in there)),
  spread_of size xs (λ i j less inside. apart (suc i) (suc j) (omega (arith, less)) (let there : suc j < length (x ∷ xs) = omega (arith, inside) in there)),
)

pub apart_of : (size : ℕ) (xs : List ℕ) → Spread size xs → AreApart size xs
apart_of size [] spread i j less inside = absurd (omega (arith, inside))
apart_of size (x ∷ xs) spread i zero less inside = absurd (omega (arith, less))
apart_of size (x ∷ xs) spread zero (suc j) less inside = All-get_or (Clear size x) xs j 0 (let there : j < length xs = omega (arith, inside) in there) spread.0
apart_of size (x ∷ xs) spread (suc i) (suc j) less inside = apart_of size xs spread.1 i j (omega (arith, less)) (let there : j < length xs = omega (arith, inside) in there)

spread-take : (size n : ℕ) (xs : List ℕ) → Spread size xs → Spread size (take n xs)
spread-take size zero xs spread = tt
spread-take size (suc n) [] spread = tt
spread-take size (suc n) (x ∷ xs) spread = (All-take (Clear size x) n xs spread.0, spread-take size n xs spread.1)

spread-drop : (size n : ℕ) (xs : List ℕ) → Spread size xs → Spread size (drop n xs)
spread-drop size zero xs spread = spread
spread-drop size (suc n) [] spread = tt
spread-drop size (suc n) (x ∷ xs) spread = spread-drop size n xs spread.1

pub spread-append : (size : ℕ) (xs ys : List ℕ) → Spread size xs → Spread size ys → All (λ x. All (Clear size x) ys) xs → Spread size (xs ++ ys)
spread-append size [] ys left right between = right
spread-append size (x ∷ xs) ys left right between = (
  All-append (Clear size x) xs ys left.0 (All-head (λ z. All (Clear size z) ys) x xs between),
  spread-append size xs ys left.1 right (All-tail (λ z. All (Clear size z) ys) x xs between),
)

-- ---- blocks

-- a property of each start at a place of a block holds of the block
of_block : (P : ℕ → Type 0) (width : ℕ) (starts : List ℕ) (i : ℕ) → ((m : ℕ) → i * width ≤ m → m < i * width + width → m < length starts → P (slice_index starts m)) → All P (block_at width starts i)
of_block P width starts i each =
    All-from_get_or P (block_at width starts i) 0
    (λ k inside.
    let long = length-take width (drop (i * width) starts) in
    let rest = length-drop (i * width) starts in
    let few : k < width = omega (arith, inside, long) in
    let there : i * width + k < length starts = omega (arith, inside, long, rest) in
    subst P (sym (get_or-take width (drop (i * width) starts) k 0 few ∙ get_or-drop (i * width) starts k 0))
    (each (i * width + k) (omega arith) (omega (arith, few)) there))

-- items with different numbers share no byte
clear_at : (size : ℕ) (starts : List ℕ) (m n : ℕ) → AreApart size starts → m ≢ n → m < length starts → n < length starts → Clear size (slice_index starts m) (slice_index starts n)
clear_at size starts m n apart other here there =
    elim (cases_lt m n) [
      | inl less ↦ apart m n less there
      | inr more ↦ let less : n < m = omega (arith, more, other) in
          either_order_turned (slice_index starts n + size) (slice_index starts m) (slice_index starts m + size) (slice_index starts n) (apart n m less here)
    ]

-- no place is in two blocks
other_places : (width i j m n : ℕ) → i ≢ j → i * width ≤ m → m < i * width + width → j * width ≤ n → n < j * width + width → m ≢ n
other_places width i j m n other low high low' high' same =
    elim (cases_lt i j) [
      | inl less ↦ let ends = item_ends_before_next i j width less in omega (arith, ends, low, high, low', high', same)
      | inr more ↦ let less : j < i = omega (arith, more, other) in let ends = item_ends_before_next j i width less in omega (arith, ends, low, high, low', high', same)
    ]

-- an item of a block shares no byte with the items of the blocks at other indices
block_clear : (size width : ℕ) (starts : List ℕ) (m i : ℕ) (picks : List ℕ) → AreApart size starts → i * width ≤ m → m < i * width + width → m < length starts → All (λ j. i ≢ j) picks
    → All (Clear size (slice_index starts m)) (flat_map (λ j. block_at width starts j) picks)
block_clear size width starts m i [] apart low high here others = All-nil (Clear size (slice_index starts m))
block_clear size width starts m i (j ∷ picks) apart low high here others =
    All-append (Clear size (slice_index starts m)) (block_at width starts j) (flat_map (λ k. block_at width starts k) picks)
    (of_block (Clear size (slice_index starts m)) width starts j
    (λ n low' high' there. clear_at size starts m n apart (other_places width i j m n (All-head (λ k. i ≢ k) j picks others) low high low' high') here there))
    (block_clear size width starts m i picks apart low high here (All-tail (λ k. i ≢ k) j picks others))

-- no index stands twice in a list
abbrev AreOnce : List ℕ → Type 0
AreOnce [] = Unit {0}
AreOnce (i ∷ picks) = All (λ j. i ≢ j) picks × AreOnce picks

blocks_spread : (size width : ℕ) (starts picks : List ℕ) → AreApart size starts → AreOnce picks → Spread size (flat_map (λ i. block_at width starts i) picks)
blocks_spread size width starts [] apart once = tt
blocks_spread size width starts (i ∷ picks) apart once =
    spread-append size (block_at width starts i) (flat_map (λ j. block_at width starts j) picks)
    (spread-take size width (drop (i * width) starts) (spread-drop size (i * width) starts (spread_of size starts apart)))
    (blocks_spread size width starts picks apart once.1)
    (of_block (λ x. All (Clear size x) (flat_map (λ j. block_at width starts j) picks)) width starts i
    (λ m low high here. block_clear size width starts m i picks apart low high here once.0))

-- ---- slices

before_differs : (step : ℤ) (i j : ℕ) → IsTrue (comes_before (pos i) (pos j) step) → i ≢ j
before_differs (pos s) i j before same = grind (arith, ints, before, same)
before_differs (negsuc s) i j before same = grind (arith, ints, before, same)

once_of : (step : ℤ) (picks : List ℕ) → AllPairs (λ i j. IsTrue (comes_before (pos i) (pos j) step)) picks → AreOnce picks
once_of step [] ordered = tt
once_of step (i ∷ picks) ordered = (
  All-from_get_or (λ j. i ≢ j) picks 0 (λ k inside. before_differs step i (slice_index picks k) (ordered 0 (suc k) 0 (omega arith) (let there : suc k < length (i ∷ picks) = omega (arith, inside) in there))),
  once_of step picks (λ a b d less inside. ordered (suc a) (suc b) d (omega (arith, less)) (let there : suc b < length (i ∷ picks) = omega (arith, inside) in there)),
)

pub slices_apart : (view : Layout) (parts : SliceParts) → AllPairs (λ i j. IsTrue (comes_before (pos i) (pos j) parts.step)) (picks_of (first_entry view.shape) parts) → HasItemsApart view → HasItemsApart (slice_of view parts)
slices_apart view parts ordered apart =
    apart_of view.itemsize (slice_of view parts).starts
    (blocks_spread view.itemsize (length view.starts / first_entry view.shape) view.starts (picks_of (first_entry view.shape) parts) apart (once_of parts.step (picks_of (first_entry view.shape) parts) ordered))

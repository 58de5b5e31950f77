-- Slices of views as blocks of their places.
use Rattle.std.proofs.Common.{◌≡◌, ℕ, zero, suc, ◌+◌, ◌*◌, ◌-◌, ◌/◌, ◌<◌, ◌≤◌, ℤ, pos, negsuc, ◌+ℤ◌, List, [], ◌∷◌, ◌++◌, length, take, drop, take-append-drop, take_at, drop_at, drop-drop, append_assoc, append-nil, length-append, length-drop, refl, ap, ap₂, sym, ◌∙◌, subst, arith}
use Rattle.std.proofs.lemmas.Int.{ints}
use Rattle.std.proofs.lemmas.List.{length-take-le, take_all, take-append-le, drop-append-le}
use Rattle.std.proofs.lemmas.List.Elements.{All-nil, All-cons, All-append, All-take, All-drop, All-head, All-tail}
use Rattle.std.specs.Prelude.{All}
use Rattle.std.specs.List.{flat_map}
use Rattle.pybuf_index.specs.Picks.{picks, steps_to}
use Rattle.pybuf_index.specs.Parts.{SliceParts, picks_of}
use Rattle.pybuf_desc.specs.Layouts.{Layout, LiesInside, HasItemsOfItsShape, product}
use Rattle.pybuf_desc.specs.Slices.{block_at, first_entry, slice_of}
use Rattle.pybuf_desc.specs.Laws.{backward}
use Rattle.pybuf_desc.proofs.SliceFacts.{block_size}

-- ---- inside

blocks_keep : (P : ℕ → Type 0) (size : ℕ) (starts picks : List ℕ) → All P starts → All P (flat_map (λ i. block_at size starts i) picks)
blocks_keep P size starts [] all = All-nil P
blocks_keep P size starts (i ∷ picks) all =
    All-append P (block_at size starts i) (flat_map (λ j. block_at size starts j) picks) (All-take P size (drop (i * size) starts) (All-drop P (i * size) starts all))
    (blocks_keep P size starts picks all)

pub slices_inside : (view : Layout) (parts : SliceParts) (room : ℕ) → LiesInside room view → LiesInside room (slice_of view parts)
slices_inside view parts room all =
    blocks_keep (λ start. start + view.itemsize ≤ room) (length view.starts / first_entry view.shape) view.starts (picks_of (first_entry view.shape) parts) all

-- ---- shape

block_ends : (n size i : ℕ) → i < n → i * size + size ≤ n * size
block_ends n size i below = grind arith

length-block : (size n : ℕ) (starts : List ℕ) (i : ℕ) → length starts ≡ n * size → i < n → length (block_at size starts i) ≡ size
length-block size n starts i whole below =
    let ends : i * size + size ≤ n * size = block_ends n size i below in
    length-take-le size (drop (i * size) starts) (rw length-drop (omega (arith, whole, ends)))

length-blocks : (size n : ℕ) (starts picks : List ℕ) → length starts ≡ n * size → All (λ i. i < n) picks → length (flat_map (λ i. block_at size starts i) picks) ≡ length picks * size
length-blocks size n starts [] whole all = (let none : 0 ≡ 0 * size = omega arith in none)
length-blocks size n starts (i ∷ picks) whole all =
    let one = length-block size n starts i whole (All-head (λ j. j < n) i picks all) in
    let rest = length-blocks size n starts picks whole (All-tail (λ j. j < n) i picks all) in
    length-append (block_at size starts i) (flat_map (λ j. block_at size starts j) picks)
    ∙ (let sum : length (block_at size starts i) + length (flat_map (λ j. block_at size starts j) picks) ≡ suc (length picks) * size = omega (arith, one, rest) in sum)

-- the blocks have the size that the later dimensions say, if there is a block
sized_blocks : (size n : ℕ) (starts picks : List ℕ) → length starts ≡ n * size → All (λ i. i < n) picks
    → flat_map (λ i. block_at (length starts / n) starts i) picks ≡ flat_map (λ i. block_at size starts i) picks
sized_blocks size n starts [] whole all = refl
sized_blocks size n starts (i ∷ picks) whole all =
    let some : 0 < n = (let below = All-head (λ j. j < n) i picks all in omega (arith, below)) in
    ap (λ (k : ℕ). flat_map (λ j. block_at k starts j) (i ∷ picks)) (block_size n size (length starts) whole some)

-- the starts of a slice of a view whose first dimension has n entries
starts_of_slice : (view : Layout) (n : ℕ) (shape : List ℕ) (parts : SliceParts) → view.shape ≡ n ∷ shape → HasItemsOfItsShape view → All (λ i. i < n) (picks_of n parts)
    → (slice_of view parts).starts ≡ flat_map (λ i. block_at (product shape) view.starts i) (picks_of n parts)
starts_of_slice view n shape parts first whole all =
    ap (λ (ns : List ℕ). flat_map (λ i. block_at (length view.starts / first_entry ns) view.starts i) (picks_of (first_entry ns) parts)) first
    ∙ sized_blocks (product shape) n view.starts (picks_of n parts) (whole ∙ ap product first) all

shape_of_slice : (view : Layout) (n : ℕ) (shape : List ℕ) (parts : SliceParts) → view.shape ≡ n ∷ shape → (slice_of view parts).shape ≡ length (picks_of n parts) ∷ shape
shape_of_slice view n shape parts first = ap (λ (ns : List ℕ). length (picks_of (first_entry ns) parts) ∷ drop 1 ns) first

pub slices_shape : (view : Layout) (n : ℕ) (shape : List ℕ) (parts : SliceParts) → view.shape ≡ n ∷ shape → HasItemsOfItsShape view → All (λ i. i < n) (picks_of n parts) → HasItemsOfItsShape (slice_of view parts)
slices_shape view n shape parts first whole all =
    ap (λ (xs : List ℕ). length xs) (starts_of_slice view n shape parts first whole all)
    ∙ length-blocks (product shape) n view.starts (picks_of n parts) (whole ∙ ap product first) all
    ∙ sym (ap product (shape_of_slice view n shape parts first))

-- ---- all of a view, backward

-- the indices below n, with the greatest first
abbrev pub downwards : ℕ → List ℕ
downwards zero = []
downwards (suc n) = n ∷ downwards n

steps_back : (k : ℕ) (at : ℤ) → at ≡ pos k +ℤ negsuc 0 → steps_to k at (negsuc 0) (negsuc 0) ≡ downwards k
steps_back zero at e = refl
steps_back (suc k) at e =
    let same : at ≡ pos k = (let one : pos (suc k) +ℤ negsuc 0 ≡ pos k = omega (arith, ints) in e ∙ one) in
    ap (λ (z : ℤ). steps_to (suc k) z (negsuc 0) (negsuc 0)) same
    ∙ ap (λ (xs : List ℕ). k ∷ xs) (steps_back k (pos k +ℤ negsuc 0) refl)

picks_back : (n : ℕ) → picks_of n backward ≡ downwards n
unfolding picks
picks_back n = steps_back n (pos n +ℤ negsuc 0) refl

below_all : (n m : ℕ) → n ≤ m → All (λ i. i < m) (downwards n)
below_all zero m fits = All-nil (λ i. i < m)
below_all (suc n) m fits =
    All-cons (λ i. i < m) n (downwards n) (let less : n < m = omega arith in less) (below_all n m (let less : n ≤ m = omega arith in less))

length-downwards : (n : ℕ) → length (downwards n) ≡ n
length-downwards zero = refl
length-downwards (suc n) = ap suc (length-downwards n)

take_whole : (size : ℕ) (block : List ℕ) → length block ≡ size → take size block ≡ block
take_whole size block e = take_all size block (omega (arith, e))

-- the blocks, from the last one to the first
abbrev pub blocks_downwards : ℕ → ℕ → List ℕ → List ℕ
blocks_downwards size n starts = flat_map (λ i. block_at size starts i) (downwards n)

next_block : (size n : ℕ) (block starts : List ℕ) → length block ≡ size → block_at size (block ++ starts) (suc n) ≡ block_at size starts n
next_block size n block starts e =
    ap (take size) (ap (λ (m : ℕ). drop m (block ++ starts)) (let next : suc n * size ≡ size + n * size = omega arith in next)
    ∙ sym (drop-drop (n * size) size (block ++ starts)) ∙ ap (drop (n * size)) (drop_at block starts size e))

downwards_first : (size n : ℕ) (block starts : List ℕ) → length block ≡ size → blocks_downwards size (suc n) (block ++ starts) ≡ blocks_downwards size n starts ++ block
downwards_first size zero block starts e =
    append-nil (block_at size (block ++ starts) zero)
    ∙ ap (λ (m : ℕ). take size (drop m (block ++ starts))) (let none : zero * size ≡ 0 = omega arith in none) ∙ take_at block starts size e
downwards_first size (suc n) block starts e =
    ap₂ (λ (xs ys : List ℕ). xs ++ ys) (next_block size n block starts e) (downwards_first size n block starts e)
    ∙ sym (append_assoc (block_at size starts n) (blocks_downwards size n starts) block)

front_block : (size i : ℕ) (starts block : List ℕ) → i * size + size ≤ length starts → block_at size (starts ++ block) i ≡ block_at size starts i
front_block size i starts block fits =
    ap (take size) (drop-append-le (i * size) starts block (omega (arith, fits)))
    ∙ take-append-le size (drop (i * size) starts) block (rw length-drop (omega (arith, fits)))

downwards_front : (size n m : ℕ) (starts block : List ℕ) → n ≤ m → length starts ≡ m * size → blocks_downwards size n (starts ++ block) ≡ blocks_downwards size n starts
downwards_front size zero m starts block few e = refl
downwards_front size (suc n) m starts block few e =
    ap₂ (λ (xs ys : List ℕ). xs ++ ys)
    (front_block size n starts block (let ends = block_ends m size n (let less : n < m = omega arith in less) in omega (arith, e, ends)))
    (downwards_front size n m starts block (let less : n ≤ m = omega arith in less) e)

downwards_last : (size n : ℕ) (starts block : List ℕ) → length starts ≡ n * size → length block ≡ size → blocks_downwards size (suc n) (starts ++ block) ≡ block ++ blocks_downwards size n starts
downwards_last size n starts block e f =
    ap₂ (λ (xs ys : List ℕ). xs ++ ys)
    (ap (take size) (drop_at starts block (n * size) e) ∙ take_whole size block f)
    (downwards_front size n n starts block (let same : n ≤ n = omega arith in same) e)

length-blocks_downwards : (size n : ℕ) (starts : List ℕ) → length starts ≡ n * size → length (blocks_downwards size n starts) ≡ n * size
length-blocks_downwards size n starts e =
    length-blocks size n starts (downwards n) e (below_all n n (let same : n ≤ n = omega arith in same)) ∙ ap (λ (m : ℕ). m * size) (length-downwards n)

no_starts : (starts : List ℕ) → length starts ≡ 0 → [] ≡ starts
no_starts [] e = refl
no_starts (s ∷ starts) e = absurd (let wrong : suc (length starts) ≡ 0 = e in omega (arith, wrong))

downwards_twice : (size n : ℕ) (starts : List ℕ) → length starts ≡ n * size → blocks_downwards size n (blocks_downwards size n starts) ≡ starts
downwards_twice size zero starts e = no_starts starts (let none : zero * size ≡ 0 = omega arith in e ∙ none)
downwards_twice size (suc n) starts e =
    let block : List ℕ = take size starts in
    let later : List ℕ = drop size starts in
    let f : length block ≡ size = length-take-le size starts (omega (arith, e)) in
    let g : length later ≡ n * size = length-drop size starts ∙ (let less : length starts - size ≡ n * size = omega (arith, e) in less) in
    let both : block ++ later ≡ starts = take-append-drop size starts in
    ap (blocks_downwards size (suc n)) (ap (blocks_downwards size (suc n)) (sym both) ∙ downwards_first size n block later f)
    ∙ downwards_last size n (blocks_downwards size n later) block (length-blocks_downwards size n later g) f
    ∙ ap (λ (xs : List ℕ). block ++ xs) (downwards_twice size n later g) ∙ both

pub back_and_back : (view : Layout) (n : ℕ) (shape : List ℕ) → view.shape ≡ n ∷ shape → HasItemsOfItsShape view → (slice_of (slice_of view backward) backward).starts ≡ view.starts
back_and_back view n shape first whole =
    let picked : picks_of n backward ≡ downwards n = picks_back n in
    let below : All (λ i. i < n) (picks_of n backward) = subst (All (λ i. i < n)) (sym picked) (below_all n n (let same : n ≤ n = omega arith in same)) in
    let size : ℕ = product shape in
    let one : (starts : List ℕ) → flat_map (λ i. block_at size starts i) (picks_of n backward) ≡ blocks_downwards size n starts = (λ starts. ap (flat_map (λ i. block_at size starts i)) picked) in
    let count : (slice_of view backward).shape ≡ n ∷ shape = shape_of_slice view n shape backward first ∙ ap (λ (m : ℕ). m ∷ shape) (ap (λ (xs : List ℕ). length xs) picked ∙ length-downwards n) in
    starts_of_slice (slice_of view backward) n shape backward count (slices_shape view n shape backward first whole below) below
    ∙ one (slice_of view backward).starts
    ∙ ap (blocks_downwards size n) (starts_of_slice view n shape backward first whole below ∙ one view.starts)
    ∙ downwards_twice size n view.starts (whole ∙ ap product first)

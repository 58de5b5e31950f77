-- The items of a cast in column order lie inside and apart.
use Rattle.std.proofs.Common.{◌≡◌, ◌⊎◌, inl, inr, ℕ, zero, suc, ◌+◌, ◌*◌, ◌<◌, ◌≤◌, List, [], ◌∷◌, ◌++◌, length, map, All, refl, ap, sym, ◌∙◌, subst, arith, mul_comm}
use Rattle.std.specs.Prelude.{true, slice_index_or}
use Rattle.std.specs.List.{AllByRecursion, flat_map, range_with_len}
use Rattle.std.proofs.Math.Nat.{le-mul_of_pos_right}
use Rattle.std.proofs.lemmas.Bool.{cases_lt}
use Rattle.std.proofs.lemmas.List.Elements.{All-nil, All-from_recursion}
use Rattle.std.proofs.lemmas.List.FromFn.{length-map-range_with_len, get_or-map-range_with_len}
use Rattle.pybuf_lemmas.proofs.Numbers.{item_ends_before_next}
use Rattle.pybuf_desc.specs.Layouts.{Layout, product, LiesInside}
use Rattle.pybuf_desc.specs.Contiguous.{starts_from, is_contiguous_layout}
use Rattle.pybuf_desc.specs.Apart.{AreApart, HasItemsApart}
use Rattle.pybuf_desc.specs.ColumnCasts.{column_major_starts, column_starts_from, column_cast_to}
use Rattle.pybuf_desc.specs.Laws.{ColumnCastsStayInside, ColumnCastsLieApart}
use Rattle.pybuf_desc.proofs.ColumnViews.{all-append}
use Rattle.pybuf_desc.proofs.ItemRuns.{shaped_inside}
use Rattle.pybuf_desc.proofs.ItemsApart.{Clear, Spread, spread-append, apart_of}

all_each : {X : Type 0} (P Q : X → Type 0) (xs : List X) → AllByRecursion P xs → ((x : X) → P x → Q x) → AllByRecursion Q xs
all_each P Q [] all each = tt
all_each P Q (x ∷ xs) all each = (each x all.0, all_each P Q xs all.1 each)

-- ---- the places lie a number of whole sizes after the first one

-- a place lies a number of sizes after another, and this number is below a count
abbrev IsStep : ℕ → ℕ → ℕ → ℕ → Type 0
IsStep first size count place = (a : ℕ) × (a < count) × (place ≡ first + a * size)

next_step : (first size n p i b place : ℕ) → i < n → b < p → place ≡ first + i * size + b * (size * n) → IsStep first size (n * p) place
next_step first size n p i b place below few is =
    let ends : b * n + n ≤ p * n = item_ends_before_next b p n few in
    let turned : p * n ≡ n * p = mul_comm p n in
    let same : first + i * size + b * (size * n) ≡ first + (i + b * n) * size = grind arith in
    (i + b * n, omega (arith, ends, below, turned), is ∙ same)

steps_from : (size n : ℕ) (shape : List ℕ) (first a k : ℕ) → ((f : ℕ) → AllByRecursion (IsStep f (size * n) (product shape)) (column_major_starts (size * n) shape f)) → a + k ≤ n
    → AllByRecursion (IsStep first size (n * product shape)) (flat_map (λ index. column_major_starts (size * n) shape (first + index * size)) (range_with_len a k))
steps_from size n shape first a zero steps fits = tt
steps_from size n shape first a (suc k) steps fits =
    all-append (IsStep first size (n * product shape)) (column_major_starts (size * n) shape (first + a * size))
    (flat_map (λ index. column_major_starts (size * n) shape (first + index * size)) (range_with_len (a + 1) k))
    (all_each (IsStep (first + a * size) (size * n) (product shape)) (IsStep first size (n * product shape)) (column_major_starts (size * n) shape (first + a * size))
    (steps (first + a * size)) (λ place s. next_step first size n (product shape) a s.0 place (omega (arith, fits)) s.1 s.2))
    (steps_from size n shape first (a + 1) k steps (omega (arith, fits)))

column_steps : (size : ℕ) (shape : List ℕ) (first : ℕ) → AllByRecursion (IsStep first size (product shape)) (column_major_starts size shape first)
column_steps size [] first = ((0, omega arith, omega arith), tt)
column_steps size (n ∷ shape) first = steps_from size n shape first 0 n (column_steps (size * n) shape) (omega arith)

-- ---- inside

start_at_step : (first size count room a : ℕ) → a < count → All (λ start. start + size ≤ room) (map (λ k. first + k * size) (range_with_len 0 count)) → first + a * size + size ≤ room
start_at_step first size count room a few all =
    subst (λ (n : ℕ). n + size ≤ room) (get_or-map-range_with_len (λ k. first + k * size) 0 count a a 0 few (let same : 0 + a ≡ a = omega arith in same))
    (all a 0 (subst (λ (n : ℕ). a < n) (sym (length-map-range_with_len (λ k. first + k * size) 0 count)) few))

inside_from_first : (size room : ℕ) (shape starts : List ℕ) → All (λ start. start + size ≤ room) (starts_from starts size (product shape)) → All (λ start. start + size ≤ room) (column_starts_from starts size shape)
inside_from_first size room shape [] all = All-nil (λ start. start + size ≤ room)
inside_from_first size room shape (first ∷ starts) all =
    All-from_recursion (λ start. start + size ≤ room) (column_major_starts size shape first)
    (all_each (IsStep first size (product shape)) (λ start. start + size ≤ room) (column_major_starts size shape first) (column_steps size shape first)
    (λ place s. subst (λ (n : ℕ). n + size ≤ room) (sym s.2) (start_at_step first size (product shape) room s.0 s.1 all)))

pub column_casts_inside : ColumnCastsStayInside
column_casts_inside view format size shape room told some whole all = inside_from_first size room shape view.starts (shaped_inside view format size shape room told some whole all)

-- ---- apart

-- a place lies in a block from `low` on
abbrev IsBehind : ℕ → ℕ → ℕ → ℕ → ℕ → Type 0
IsBehind first size n low place = (j : ℕ) × (c : ℕ) × (low ≤ j) × (j < n) × (place ≡ first + j * size + c * (size * n))

behind_from : (size n : ℕ) (shape : List ℕ) (first low a k : ℕ) → low ≤ a → a + k ≤ n
    → AllByRecursion (IsBehind first size n low) (flat_map (λ index. column_major_starts (size * n) shape (first + index * size)) (range_with_len a k))
behind_from size n shape first low a zero least fits = tt
behind_from size n shape first low a (suc k) least fits =
    all-append (IsBehind first size n low) (column_major_starts (size * n) shape (first + a * size))
    (flat_map (λ index. column_major_starts (size * n) shape (first + index * size)) (range_with_len (a + 1) k))
    (all_each (IsStep (first + a * size) (size * n) (product shape)) (IsBehind first size n low) (column_major_starts (size * n) shape (first + a * size))
    (column_steps (size * n) shape (first + a * size)) (λ place s. (a, s.0, least, omega (arith, fits), s.2)))
    (behind_from size n shape first low (a + 1) k (omega (arith, least)) (omega (arith, fits)))

blocks_clear : (first size n a b j c x y : ℕ) → a < j → j < n → x ≡ first + a * size + b * (size * n) → y ≡ first + j * size + c * (size * n) → Clear size x y
blocks_clear first size n a b j c x y less below is there =
    let block : n * size ≡ size * n = mul_comm n size in
    let ends : a * size + size ≤ n * size = item_ends_before_next a n size (omega (arith, less, below)) in
    let later : j * size + size ≤ n * size = item_ends_before_next j n size below in
    elim (cases_lt b c) [
      | inl before ↦ let rows : b * (size * n) + size * n ≤ c * (size * n) = item_ends_before_next b c (size * n) before in inl (omega (arith, block, ends, rows, is, there))
      | inr after ↦ elim (cases_lt c b) [
        | inl more ↦ let rows : c * (size * n) + size * n ≤ b * (size * n) = item_ends_before_next c b (size * n) more in inr (omega (arith, block, later, rows, is, there))
        | inr most ↦ let same : b ≡ c = omega (arith, after, most) in
            let row : b * (size * n) ≡ c * (size * n) = ap (λ (k : ℕ). k * (size * n)) same in
            let next : a * size + size ≤ j * size = item_ends_before_next a j size less in inl (omega (arith, row, next, is, there))
      ]
    ]

clear_less : (size more x y : ℕ) → size ≤ more → Clear more x y → Clear size x y
clear_less size more x y least (inl clear) = inl (omega (arith, least, clear))
clear_less size more x y least (inr clear) = inr (omega (arith, least, clear))

spread_less : (size more : ℕ) (xs : List ℕ) → size ≤ more → Spread more xs → Spread size xs
spread_less size more [] least spread = tt
spread_less size more (x ∷ xs) least spread =
    ((λ k d inside. clear_less size more x (slice_index_or xs k d) least (spread.0 k d inside)), spread_less size more xs least spread.1)

spread_from : (size n : ℕ) (shape : List ℕ) (first a k : ℕ) → ((f : ℕ) → Spread (size * n) (column_major_starts (size * n) shape f)) → a + k ≤ n → Spread size (flat_map (λ index. column_major_starts (size * n) shape (first + index * size)) (range_with_len a k))
spread_from size n shape first a zero spreads fits = tt
spread_from size n shape first a (suc k) spreads fits =
    let block : List ℕ = column_major_starts (size * n) shape (first + a * size) in
    let rest : List ℕ = flat_map (λ index. column_major_starts (size * n) shape (first + index * size)) (range_with_len (a + 1) k) in
    let least : size ≤ size * n = let some : 0 < n = omega (arith, fits) in le-mul_of_pos_right size some in
    let later : AllByRecursion (IsBehind first size n (a + 1)) rest = behind_from size n shape first (a + 1) (a + 1) k (omega arith) (omega (arith, fits)) in
    spread-append size block rest (spread_less size (size * n) block least (spreads (first + a * size))) (spread_from size n shape first (a + 1) k spreads (omega (arith, fits)))
    (All-from_recursion (λ x. All (Clear size x) rest) block
    (all_each (IsStep (first + a * size) (size * n) (product shape)) (λ x. All (Clear size x) rest) block (column_steps (size * n) shape (first + a * size))
    (λ x s. All-from_recursion (Clear size x) rest
    (all_each (IsBehind first size n (a + 1)) (Clear size x) rest later (λ y t. blocks_clear first size n a s.0 t.0 t.1 x y (omega (arith, t.2)) t.3 s.2 t.4)))))

column_spread : (size : ℕ) (shape : List ℕ) (first : ℕ) → Spread size (column_major_starts size shape first)
column_spread size [] first = (All-nil (Clear size first), tt)
column_spread size (n ∷ shape) first = spread_from size n shape first 0 n (column_spread (size * n) shape) (omega arith)

apart_from_first : (size : ℕ) (shape starts : List ℕ) → AreApart size (column_starts_from starts size shape)
apart_from_first size shape [] = λ i j less inside. absurd (omega (arith, inside))
apart_from_first size shape (first ∷ starts) = apart_of size (column_major_starts size shape first) (column_spread size shape first)

pub column_casts_apart : ColumnCastsLieApart
column_casts_apart view format size shape = apart_from_first size shape view.starts

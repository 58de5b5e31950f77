-- How the next row is found, with an index for each dimension.
use Rattle.std.proofs.Common.{◌≡◌, ℕ, zero, suc, ◌+◌, ◌-◌, ◌*◌, ◌^◌, ◌<◌, ◌≤◌, ℤ, pos, ◌+ℤ◌, ◌-ℤ◌, ◌*ℤ◌, ◌≤ℤ◌, true, false, List, [], ◌∷◌, length, get_or, set, replicate, take, drop, drop-cons, drop_of_length-le, refl, ap, ap₂, sym, ◌∙◌, subst, arith, Some, slice_get, SFits, w64, add-one, zero-mul}
use Rattle.std.proofs.lemmas.Int.{ints}
use Rattle.std.specs.List.{AllByRecursion}
use Rattle.pybuf_lemmas.proofs.Integers.{next_multiple, zeroth_place}
use Rattle.pybuf_desc.specs.Facts.{length-places}
use Rattle.pybuf_desc.specs.Layouts.{product}
use Rattle.pybuf_desc.specs.Descriptor.{shape_of}
use Rattle.pybuf_desc.specs.Places.{places}
use Rattle.pybuf_desc.specs.Positions.{AreIndices, offset_of, number_of_item}
use Rattle.pybuf_desc.specs.Valid.{IsInside}
use Rattle.pybuf_desc.specs.Segments.{HasPlaces, AreWithin, IsRow, start_from, rows_left}
use Rattle.pybuf_desc.proofs.Indices.{place_of_item}
use Rattle.pybuf_desc.proofs.Moves.{dim_at}

-- ---- indices with more behind them

within_take : (indices : List ℕ) (dims : List (ℕ × ℤ × ℤ)) → AreWithin indices dims → AreIndices (take (length dims) indices) dims
within_take [] [] h = tt
within_take (i ∷ indices) [] h = tt
within_take [] (dim ∷ dims) h = absurd h
within_take (i ∷ indices) (dim ∷ dims) h = (h.0, within_take indices dims h.1)

number-take : (indices : List ℕ) (dims : List (ℕ × ℤ × ℤ)) → number_of_item (take (length dims) indices) dims ≡ number_of_item indices dims
number-take [] [] = refl
number-take (i ∷ indices) [] = refl
number-take [] (dim ∷ dims) = refl
number-take (i ∷ indices) (dim ∷ dims) = ap (λ (n : ℕ). i * product (shape_of dims) + n) (number-take indices dims)

offset-take : (indices : List ℕ) (dims : List (ℕ × ℤ × ℤ)) → offset_of (take (length dims) indices) dims ≡ offset_of indices dims
offset-take [] [] = refl
offset-take (i ∷ indices) [] = refl
offset-take [] (dim ∷ dims) = refl
offset-take (i ∷ indices) (dim ∷ dims) = ap (λ (z : ℤ). pos i *ℤ dim.1 +ℤ z) (offset-take indices dims)

place_within : (indices : List ℕ) (dims : List (ℕ × ℤ × ℤ)) (p : ℤ) → AreWithin indices dims → slice_get (places dims p) (number_of_item indices dims) ≡ Some (p +ℤ offset_of indices dims)
place_within indices dims p h =
    ap (λ n. slice_get (places dims p) n) (sym (number-take indices dims))
    ∙ place_of_item (take (length dims) indices) dims p (within_take indices dims h)
    ∙ ap (λ (z : ℤ). Some (p +ℤ z)) (offset-take indices dims)

inside_get : (P : ℤ → Type 0) (xs : List ℤ) (k : ℕ) (z : ℤ) → slice_get xs k ≡ Some z → AllByRecursion P xs → P z
inside_get P [] k z e all = absurd (cc)
inside_get P (x ∷ xs) zero z e all = subst P (let same : x ≡ z = cc in same) all.0
inside_get P (x ∷ xs) (suc k) z e all = inside_get P xs k z e all.1

-- the place at these indices fits `isize`
fits_within : (indices : List ℕ) (rows : List (ℕ × ℤ × ℤ)) (start p : ℤ) → p ≡ start +ℤ offset_of indices rows → AreWithin indices rows → HasPlaces rows start → (pos 0 ≤ℤ p) × (p ≤ℤ pos 9223372036854775807)
fits_within indices rows start p e h placed =
    let i : IsInside 0 9223372036854775807 (start +ℤ offset_of indices rows) =
    inside_get (IsInside 0 9223372036854775807) (places rows start) (number_of_item indices rows) (start +ℤ offset_of indices rows) (place_within indices rows start h) placed.inside in
    let low = i.low in let high = i.high in (omega (arith, ints, e, low), omega (arith, ints, e, high))

-- ---- one index is set

within_at : (indices : List ℕ) (dims : List (ℕ × ℤ × ℤ)) (k : ℕ) → k < length dims → AreWithin indices dims → (k < length indices) × (get_or indices k 0 < (dim_at dims k).0)
within_at indices [] k h w = absurd (omega arith)
within_at [] (dim ∷ dims) k h w = absurd w
within_at (i ∷ indices) (dim ∷ dims) zero h w = (omega arith, w.0)
within_at (i ∷ indices) (dim ∷ dims) (suc k) h w =
    let rest : (k < length indices) × (get_or indices k 0 < (dim_at dims k).0) = within_at indices dims k (omega arith) w.1 in
    (let low = rest.0 in omega arith, rest.1)

within_set : (indices : List ℕ) (dims : List (ℕ × ℤ × ℤ)) (k v : ℕ) → k < length dims → AreWithin indices dims → v < (dim_at dims k).0 → AreWithin (set indices k v) dims
within_set indices [] k v h w below = absurd (omega arith)
within_set [] (dim ∷ dims) k v h w below = absurd w
within_set (i ∷ indices) (dim ∷ dims) zero v h w below = (below, w.1)
within_set (i ∷ indices) (dim ∷ dims) (suc k) v h w below = (w.0, within_set indices dims k v (omega arith) w.1 below)

number_set : (indices : List ℕ) (dims : List (ℕ × ℤ × ℤ)) (k v : ℕ) → k < length dims → AreWithin indices dims
    → number_of_item (set indices k v) dims + get_or indices k 0 * product (shape_of (drop (suc k) dims)) ≡ number_of_item indices dims + v * product (shape_of (drop (suc k) dims))
number_set indices [] k v h w = absurd (omega arith)
number_set [] (dim ∷ dims) k v h w = absurd w
number_set (i ∷ indices) (dim ∷ dims) zero v h w =
    let e : v * product (shape_of dims) + number_of_item indices dims + i * product (shape_of dims) ≡ i * product (shape_of dims) + number_of_item indices dims + v * product (shape_of dims) = omega arith in e
number_set (i ∷ indices) (dim ∷ dims) (suc k) v h w =
    let rest : number_of_item (set indices k v) dims + get_or indices k 0 * product (shape_of (drop (suc k) dims)) ≡ number_of_item indices dims + v * product (shape_of (drop (suc k) dims)) = number_set indices dims k v (omega arith) w.1 in
    let e : i * product (shape_of dims) + number_of_item (set indices k v) dims + get_or indices k 0 * product (shape_of (drop (suc k) dims)) ≡ i * product (shape_of dims) + number_of_item indices dims + v * product (shape_of (drop (suc k) dims)) = omega (arith, rest) in e

swap_here : (a b c : ℤ) → a +ℤ b +ℤ c ≡ c +ℤ b +ℤ a
swap_here a b c = omega (arith, ints)

swap_later : (a b c d e : ℤ) → b +ℤ c ≡ d +ℤ e → a +ℤ b +ℤ c ≡ a +ℤ d +ℤ e
swap_later a b c d e h = omega (arith, ints, h)

offset_set : (indices : List ℕ) (dims : List (ℕ × ℤ × ℤ)) (k v : ℕ) → k < length dims → AreWithin indices dims
    → offset_of (set indices k v) dims +ℤ pos (get_or indices k 0) *ℤ (dim_at dims k).1 ≡ offset_of indices dims +ℤ pos v *ℤ (dim_at dims k).1
offset_set indices [] k v h w = absurd (omega arith)
offset_set [] (dim ∷ dims) k v h w = absurd w
offset_set (i ∷ indices) (dim ∷ dims) zero v h w = swap_here (pos v *ℤ dim.1) (offset_of indices dims) (pos i *ℤ dim.1)
offset_set (i ∷ indices) (dim ∷ dims) (suc k) v h w =
    swap_later (pos i *ℤ dim.1) (offset_of (set indices k v) dims) (pos (get_or indices k 0) *ℤ (dim_at dims k).1) (offset_of indices dims) (pos v *ℤ (dim_at dims k).1)
    (offset_set indices dims k v (omega arith) w.1)

entry_fits : (dims : List (ℕ × ℤ × ℤ)) (k : ℕ) → k < length dims → AllByRecursion (λ dim. (0 < dim.0) × (dim.0 < 2 ^ 63)) dims → (0 < (dim_at dims k).0) × ((dim_at dims k).0 < 2 ^ 63)
entry_fits [] k h all = absurd (omega arith)
entry_fits (dim ∷ dims) zero h all = all.0
entry_fits (dim ∷ dims) (suc k) h all = entry_fits dims k (omega arith) all.1

-- ---- the carry

-- The indices from k on went back to 0. So the row before them is the last of its block, and one more row would be the
-- first of the next block.
pub record Carried (rows : List (ℕ × ℤ × ℤ)) (old : List ℕ) (first : ℕ) (indices : List ℕ) (place k : ℕ) : Type 0 where
  pub below : k ≤ length rows
  pub row : IsRow rows indices place
  pub start : start_from rows indices place ≡ start_from rows old first
  pub number : number_of_item indices rows + product (shape_of (drop k rows)) ≡ number_of_item old rows + 1

pub carry_none : (rows : List (ℕ × ℤ × ℤ)) (indices : List ℕ) (place : ℕ) → IsRow rows indices place → Carried rows indices place indices place (length rows)
carry_none rows indices place row =
    record {
      below = omega arith;
      row = row;
      start = refl;
      number = ap (λ ds. number_of_item indices rows + product (shape_of ds)) (drop_of_length-le rows (let e : length rows ≤ length rows = omega arith in e));
    }

-- what is read at the index before k
pub record Digit (rows : List (ℕ × ℤ × ℤ)) (indices : List ℕ) (place k : ℕ) : Type 0 where
  pub in_rows : k < length rows
  pub in_indices : k < length indices
  pub below : get_or indices k 0 < (dim_at rows k).0
  pub entries_fit : (dim_at rows k).0 < 2 ^ 63
  pub place_fits : place < 2 ^ 63

place_of_row : (place : ℕ) (o : ℤ) → pos place ≡ pos place -ℤ o +ℤ o
place_of_row place o = omega (arith, ints)

row_fits : (rows : List (ℕ × ℤ × ℤ)) (indices : List ℕ) (place : ℕ) → IsRow rows indices place → place < 2 ^ 63
row_fits rows indices place row =
    let at = fits_within indices rows (start_from rows indices place) (pos place) (place_of_row place (offset_of indices rows)) row.within row.placed in
    let high = at.1 in omega (arith, ints, high)

pub digit : (rows : List (ℕ × ℤ × ℤ)) (old : List ℕ) (first : ℕ) (indices : List ℕ) (place k : ℕ) → 0 < k → Carried rows old first indices place k → Digit rows indices place (k - 1)
digit rows old first indices place k h c =
    let low = c.below in
    let in_rows : k - 1 < length rows = omega (arith, low, h) in
    let at : (k - 1 < length indices) × (get_or indices (k - 1) 0 < (dim_at rows (k - 1)).0) = within_at indices rows (k - 1) in_rows c.row.within in
    record {
      in_rows = in_rows;
      in_indices = at.0;
      below = at.1;
      entries_fit = (entry_fits rows (k - 1) in_rows c.row.placed.entries).1;
      place_fits = row_fits rows indices place c.row;
    }

-- the row whose index before k is set to `v`
pub record Reset (rows : List (ℕ × ℤ × ℤ)) (indices : List ℕ) (place k v : ℕ) (next : ℤ) : Type 0 where
  pub low : pos 0 ≤ℤ next
  pub high : next ≤ℤ pos 9223372036854775807
  pub row : (n : ℕ) → pos n ≡ next → IsRow rows (set indices k v) n
  pub start : (n : ℕ) → pos n ≡ next → start_from rows (set indices k v) n ≡ start_from rows indices place

start_same : (p o n q x y : ℤ) → q +ℤ x ≡ o +ℤ y → n +ℤ x ≡ p +ℤ y → n -ℤ q ≡ p -ℤ o
start_same p o n q x y e f = omega (arith, ints, e, f)

place_same : (p o n q x y : ℤ) → q +ℤ x ≡ o +ℤ y → n +ℤ x ≡ p +ℤ y → n ≡ p -ℤ o +ℤ q
place_same p o n q x y e f = omega (arith, ints, e, f)

pub reset : (rows : List (ℕ × ℤ × ℤ)) (indices : List ℕ) (place k v : ℕ) (next : ℤ) → k < length rows → v < (dim_at rows k).0 → IsRow rows indices place
    → next +ℤ pos (get_or indices k 0) *ℤ (dim_at rows k).1 ≡ pos place +ℤ pos v *ℤ (dim_at rows k).1
    → Reset rows indices place k v next
reset rows indices place k v next h below row e =
    let o : offset_of (set indices k v) rows +ℤ pos (get_or indices k 0) *ℤ (dim_at rows k).1 ≡ offset_of indices rows +ℤ pos v *ℤ (dim_at rows k).1 = offset_set indices rows k v h row.within in
    let w : AreWithin (set indices k v) rows = within_set indices rows k v h row.within below in
    let at : (pos 0 ≤ℤ next) × (next ≤ℤ pos 9223372036854775807) =
    fits_within (set indices k v) rows (start_from rows indices place) next
    (place_same (pos place) (offset_of indices rows) next (offset_of (set indices k v) rows) (pos (get_or indices k 0) *ℤ (dim_at rows k).1) (pos v *ℤ (dim_at rows k).1) o e) w row.placed in
    let same : next -ℤ offset_of (set indices k v) rows ≡ start_from rows indices place =
    start_same (pos place) (offset_of indices rows) next (offset_of (set indices k v) rows) (pos (get_or indices k 0) *ℤ (dim_at rows k).1) (pos v *ℤ (dim_at rows k).1) o e in
    record {
      low = at.0;
      high = at.1;
      row = λ n f. record {
        within = w;
        placed = subst (HasPlaces rows) (sym (ap (λ (z : ℤ). z -ℤ offset_of (set indices k v) rows) f ∙ same)) row.placed;
      };
      start = λ n f. ap (λ (z : ℤ). z -ℤ offset_of (set indices k v) rows) f ∙ same;
    }

-- ---- the index goes up by one

one_more : (p t : ℤ) (i : ℕ) → p +ℤ t +ℤ pos i *ℤ t ≡ p +ℤ pos (i + 1) *ℤ t
one_more p t i = rw next_multiple (omega (arith, ints))

pub raised : (rows : List (ℕ × ℤ × ℤ)) (indices : List ℕ) (place k : ℕ) → k < length rows → get_or indices k 0 + 1 < (dim_at rows k).0 → IsRow rows indices place
    → Reset rows indices place k (get_or indices k 0 + 1) (pos place +ℤ (dim_at rows k).1)
raised rows indices place k h more row =
    reset rows indices place k (get_or indices k 0 + 1) (pos place +ℤ (dim_at rows k).1) h more row (one_more (pos place) (dim_at rows k).1 (get_or indices k 0))

-- ---- the index goes back to 0

back_to_0 : (p t : ℤ) (m : ℤ) → pos 0 *ℤ t ≡ pos 0 → p -ℤ m +ℤ m ≡ p +ℤ pos 0 *ℤ t
back_to_0 p t m e = (let f : p -ℤ m +ℤ m ≡ p +ℤ pos 0 = omega (arith, ints) in f) ∙ ap (λ (z : ℤ). p +ℤ z) (sym e)

none_times : (t : ℤ) → pos 0 *ℤ t ≡ pos 0
none_times t = (let f : pos 0 *ℤ t ≡ pos 0 +ℤ pos 0 *ℤ t = omega (arith, ints) in f) ∙ zeroth_place (pos 0) t

pub lowered : (rows : List (ℕ × ℤ × ℤ)) (indices : List ℕ) (place k : ℕ) → k < length rows → 0 < (dim_at rows k).0 → IsRow rows indices place
    → Reset rows indices place k 0 (pos place -ℤ pos (get_or indices k 0) *ℤ (dim_at rows k).1)
lowered rows indices place k h some row =
    reset rows indices place k 0 (pos place -ℤ pos (get_or indices k 0) *ℤ (dim_at rows k).1) h some row
    (back_to_0 (pos place) (dim_at rows k).1 (pos (get_or indices k 0) *ℤ (dim_at rows k).1) (none_times (dim_at rows k).1))

pub way_fits : (place : ℕ) (m : ℤ) → place < 2 ^ 63 → pos 0 ≤ℤ (pos place -ℤ m) → (pos place -ℤ m) ≤ℤ pos 9223372036854775807 → SFits w64 m
way_fits place m h low high = omega (arith, ints, h, low, high)

drop_before : (dims : List (ℕ × ℤ × ℤ)) (k : ℕ) → k < length dims → product (shape_of (drop k dims)) ≡ (dim_at dims k).0 * product (shape_of (drop (suc k) dims))
drop_before dims k h = ap (λ ds. product (shape_of ds)) (drop-cons dims k (0, pos 0, pos 0) h)

carry_number : (n m i e p q : ℕ) → n + i * p ≡ m + 0 * p → e ≡ i + 1 → q ≡ e * p → n + q ≡ m + p
carry_number n m i e p q h f g = let g' : q ≡ (i + 1) * p = g ∙ ap (λ (k : ℕ). k * p) f in omega (arith, h, g')

suc_pred : (k : ℕ) → 0 < k → suc (k - 1) ≡ k
suc_pred k h = omega arith

pub carry_on : (rows : List (ℕ × ℤ × ℤ)) (old : List ℕ) (first : ℕ) (indices : List ℕ) (place k n : ℕ) → 0 < k → (dim_at rows (k - 1)).0 ≤ get_or indices (k - 1) 0 + 1
    → pos n ≡ pos place -ℤ pos (get_or indices (k - 1) 0) *ℤ (dim_at rows (k - 1)).1
    → Carried rows old first indices place k → Carried rows old first (set indices (k - 1) 0) n (k - 1)
carry_on rows old first indices place k n h last f c =
    let d : Digit rows indices place (k - 1) = digit rows old first indices place k h c in
    let low = d.below in
    let r = lowered rows indices place (k - 1) d.in_rows (omega (arith, low)) c.row in
    let number : number_of_item (set indices (k - 1) 0) rows + get_or indices (k - 1) 0 * product (shape_of (drop k rows)) ≡ number_of_item indices rows + 0 * product (shape_of (drop k rows)) =
    subst (λ j. number_of_item (set indices (k - 1) 0) rows + get_or indices (k - 1) 0 * product (shape_of (drop j rows)) ≡ number_of_item indices rows + 0 * product (shape_of (drop j rows))) (suc_pred k h)
    (number_set indices rows (k - 1) 0 d.in_rows c.row.within) in
    let blocks : product (shape_of (drop (k - 1) rows)) ≡ (dim_at rows (k - 1)).0 * product (shape_of (drop k rows)) =
    drop_before rows (k - 1) d.in_rows ∙ ap (λ j. (dim_at rows (k - 1)).0 * product (shape_of (drop j rows))) (suc_pred k h) in
    record {
      below = (let b = c.below in omega (arith, b));
      row = r.row n f;
      start = r.start n f ∙ c.start;
      number = carry_number (number_of_item (set indices (k - 1) 0) rows) (number_of_item indices rows) (get_or indices (k - 1) 0) (dim_at rows (k - 1)).0 (product (shape_of (drop k rows))) (product (shape_of (drop (k - 1) rows)))
          number (omega (arith, low, last)) blocks ∙ c.number;
    }

-- ---- the rows that are left

drop-get : (xs : List ℤ) (i : ℕ) (x : ℤ) → slice_get xs i ≡ Some x → drop i xs ≡ x ∷ drop (suc i) xs
drop-get [] i x e = absurd (cc)
drop-get (y ∷ xs) zero x e = ap (λ (z : ℤ). z ∷ xs) (let f : y ≡ x = cc in f)
drop-get (y ∷ xs) (suc i) x e = drop-get xs i x e

row_first : (rows : List (ℕ × ℤ × ℤ)) (indices : List ℕ) (place : ℕ) → IsRow rows indices place
    → rows_left rows indices place true ≡ pos place ∷ drop (number_of_item indices rows + 1) (places rows (start_from rows indices place))
row_first rows indices place row =
    rw add-one (drop-get (places rows (start_from rows indices place)) (number_of_item indices rows) (pos place)
    (place_within indices rows (start_from rows indices place) row.within ∙ ap (λ (z : ℤ). Some z) (sym (place_of_row place (offset_of indices rows)))))

raised_number : (n m i p : ℕ) (q : ℕ) → n + i * p ≡ m + (i + 1) * p → m + p ≡ q → n ≡ q
raised_number n m i p q h f = omega (arith, h, f)

pub left_raised : (rows : List (ℕ × ℤ × ℤ)) (old : List ℕ) (first : ℕ) (indices : List ℕ) (place k n : ℕ) → 0 < k → get_or indices (k - 1) 0 + 1 < (dim_at rows (k - 1)).0
    → pos n ≡ pos place +ℤ (dim_at rows (k - 1)).1 → IsRow rows old first → Carried rows old first indices place k
    → rows_left rows old first true ≡ pos first ∷ rows_left rows (set indices (k - 1) (get_or indices (k - 1) 0 + 1)) n true
left_raised rows old first indices place k n h more f row c =
    let d : Digit rows indices place (k - 1) = digit rows old first indices place k h c in
    let r = raised rows indices place (k - 1) d.in_rows more c.row in
    let number : number_of_item (set indices (k - 1) (get_or indices (k - 1) 0 + 1)) rows ≡ number_of_item old rows + 1 =
    raised_number (number_of_item (set indices (k - 1) (get_or indices (k - 1) 0 + 1)) rows) (number_of_item indices rows) (get_or indices (k - 1) 0) (product (shape_of (drop k rows))) (number_of_item old rows + 1)
    (subst (λ j. number_of_item (set indices (k - 1) (get_or indices (k - 1) 0 + 1)) rows + get_or indices (k - 1) 0 * product (shape_of (drop j rows)) ≡ number_of_item indices rows + (get_or indices (k - 1) 0 + 1) * product (shape_of (drop j rows))) (suc_pred k h)
    (number_set indices rows (k - 1) (get_or indices (k - 1) 0 + 1) d.in_rows c.row.within)) c.number in
    row_first rows old first row
    ∙ ap (λ (xs : List ℤ). pos first ∷ xs) (ap₂ (λ (j : ℕ) (z : ℤ). drop j (places rows z)) (sym number) (sym (r.start n f ∙ c.start)))

pub left_none : (rows : List (ℕ × ℤ × ℤ)) (old : List ℕ) (first : ℕ) (indices : List ℕ) (place n : ℕ) → IsRow rows old first → Carried rows old first indices place 0
    → rows_left rows old first true ≡ pos first ∷ rows_left rows indices n false
left_none rows old first indices place n row c =
    row_first rows old first row
    ∙ ap (λ (xs : List ℤ). pos first ∷ xs) (drop_of_length-le (places rows (start_from rows old first))
    (let l = length-places rows (start_from rows old first) in let e = c.number in omega (arith, l, e)))

-- ---- the first row

within_first : (n : ℕ) (dims : List (ℕ × ℤ × ℤ)) → length dims ≤ n → AllByRecursion (λ dim. (0 < dim.0) × (dim.0 < 2 ^ 63)) dims → AreWithin (replicate n 0) dims
within_first n [] h all = tt
within_first zero (dim ∷ dims) h all = absurd (omega arith)
within_first (suc n) (dim ∷ dims) h all = (all.0.0, within_first n dims (omega arith) all.1)

number_first : (n : ℕ) (dims : List (ℕ × ℤ × ℤ)) → number_of_item (replicate n 0) dims ≡ 0
number_first zero [] = refl
number_first zero (dim ∷ dims) = refl
number_first (suc n) [] = refl
number_first (suc n) (dim ∷ dims) = let rest = number_first n dims in let none : 0 * product (shape_of dims) ≡ 0 = zero-mul (product (shape_of dims)) in omega (arith, rest, none)

offset_first : (n : ℕ) (dims : List (ℕ × ℤ × ℤ)) → offset_of (replicate n 0) dims ≡ pos 0
offset_first zero [] = refl
offset_first zero (dim ∷ dims) = refl
offset_first (suc n) [] = refl
offset_first (suc n) (dim ∷ dims) = ap₂ (λ (x y : ℤ). x +ℤ y) (none_times dim.1) (offset_first n dims)

start_first : (n : ℕ) (rows : List (ℕ × ℤ × ℤ)) (start : ℕ) → start_from rows (replicate n 0) start ≡ pos start
start_first n rows start = ap (λ (z : ℤ). pos start -ℤ z) (offset_first n rows) ∙ (let e : pos start -ℤ pos 0 ≡ pos start = omega (arith, ints) in e)

pub first_left : (rows : List (ℕ × ℤ × ℤ)) (indices : List ℕ) (start : ℕ) → indices ≡ replicate 64 0 → rows_left rows indices start true ≡ places rows (pos start)
first_left rows indices start e =
    ap (λ is. rows_left rows is start true) e
    ∙ ap₂ (λ (j : ℕ) (z : ℤ). drop j (places rows z)) (number_first 64 rows) (start_first 64 rows start)

pub first_row : (rows : List (ℕ × ℤ × ℤ)) (indices : List ℕ) (start : ℕ) → indices ≡ replicate 64 0 → length rows ≤ 64 → HasPlaces rows (pos start) → IsRow rows indices start
first_row rows indices start e few placed =
    subst (λ is. IsRow rows is start) (sym e)
    (record {
      within = within_first 64 rows few placed.entries;
      placed = subst (HasPlaces rows) (sym (start_first 64 rows start)) placed;
    })

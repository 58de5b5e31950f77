-- How slices change the dimensions of a descriptor.
use Rattle.std.proofs.Common.{◌≡◌, ◌≢◌, ℕ, zero, suc, ◌*◌, ◌^◌, ◌<◌, ◌≤◌, ℤ, pos, ◌+ℤ◌, ◌*ℤ◌, Bool, true, false, true≢false, List, [], ◌∷◌, length, get_or, drop, refl, ap, ap₂, sym, ◌∙◌, subst, arith, SFits, w64, All, mul-le-mul, mul-le-mul_left, le_refl, lt_of_le_of_lt, le-mul_of_pos_right, zero-lt-suc}
use Rattle.std.specs.List.{AllByRecursion}
use Rattle.std.proofs.lemmas.Int.{ints}
use Rattle.std.proofs.lemmas.List.Elements.{All-from_recursion, recursion_from_All}
use Rattle.std.proofs.Math.IntN.{*ℤ_comm, zero-*ℤ}
use Rattle.pybuf_lemmas.proofs.Integers.{sum_associates, product_is_nonzero, sum_times}
use Rattle.pybuf_index.specs.Facts.{nearest_word_fits, nearest_word_nonzero, Walks}
use Rattle.pybuf_desc.specs.Facts.{positive_extent}
use Rattle.pybuf_index.specs.Parts.{SliceParts, IsSaturated, picks_of, nearest_word}
use Rattle.pybuf_index.specs.Laws.{SlicesHaveSpans}
use Rattle.pybuf_desc.specs.Layouts.{Layout, product}
use Rattle.pybuf_desc.specs.Descriptor.{Descriptor, shape_of, strides_of}
use Rattle.pybuf_desc.specs.Places.{places, Stands}
use Rattle.pybuf_desc.specs.Positions.{offset_of}
use Rattle.pybuf_desc.specs.Valid.{IsInside, IsValid, IsPlaced, nonzero_entries}
use Rattle.pybuf_nd.specs.IndexMaps.{IsIndexList, view_by}
use Rattle.pybuf_nd.specs.Selections.{picks_of_each, picked_indices, counts_of, strides_after, has_zero, selection_of}
use Rattle.pybuf_nd.specs.Dims.{in_dims, cut_dims, firsts_of}
use Rattle.pybuf_nd.proofs.Walks.{before_first, walks_slice, few_picks, walk_below, walk_line, walk_first, walk_two}
use Rattle.pybuf_nd.proofs.Spread.{AreNonzero, AreSpread, spread_of}
use Rattle.pybuf_nd.proofs.Remaps.{Remaps, AreSound, stands_remap, valid_remap}

abbrev pub AreSaturated : List SliceParts → Type 0
AreSaturated slices = AllByRecursion IsSaturated slices

-- ---- shape and strides

pub shape_cut : (dims : List (ℕ × ℤ × ℤ)) (slices : List SliceParts) → shape_of (cut_dims dims slices) ≡ counts_of (picks_of_each (shape_of dims) slices)
shape_cut [] slices = refl
shape_cut (dim ∷ dims) [] = refl
shape_cut (dim ∷ dims) (parts ∷ slices) = ap (λ (ns : List ℕ). length (picks_of dim.0 parts) ∷ ns) (shape_cut dims slices)

strides_cut : (dims : List (ℕ × ℤ × ℤ)) (slices : List SliceParts) → AreSaturated slices → strides_of (cut_dims dims slices) ≡ strides_after (strides_of dims) slices
strides_cut [] slices s = refl
strides_cut (dim ∷ dims) [] s = refl
strides_cut (dim ∷ dims) (parts ∷ slices) s =
    ap₂ (λ (step : ℤ) (ss : List ℤ). nearest_word (dim.1 *ℤ step) ∷ ss) (sym (nearest_word_fits parts.step s.0.step)) (strides_cut dims slices s.1)

-- ---- zeros

zero_first : (n : ℕ) (shape : List ℕ) → has_zero (n ∷ shape) ≡ true → 0 < n → has_zero shape ≡ true
zero_first zero shape e h = absurd (omega (arith, h))
zero_first (suc n) shape e h = e

pub no_indices : (shape indices : List ℕ) → has_zero shape ≡ true → IsIndexList shape indices → ⊥
no_indices [] indices e h = true≢false (sym e)
no_indices (n ∷ shape) [] e h = h
no_indices (n ∷ shape) (i ∷ indices) e h = let low = h.0 in no_indices shape indices (zero_first n shape e (omega (arith, low))) h.1

pub some_from_indices : (shape indices : List ℕ) → IsIndexList shape indices → has_zero shape ≡ false
some_from_indices shape indices h = by_cases (has_zero shape) refl
  where
    by_cases : (b : Bool) → has_zero shape ≡ b → has_zero shape ≡ false
    by_cases true e = absurd (no_indices shape indices e h)
    by_cases false e = e

first_some : (n : ℕ) (shape : List ℕ) → has_zero (n ∷ shape) ≡ false → (0 < n) × (has_zero shape ≡ false)
first_some zero shape e = absurd (true≢false e)
first_some (suc n) shape e = (zero-lt-suc n, e)

pub entries_some : (dims : List (ℕ × ℤ × ℤ)) → has_zero (shape_of dims) ≡ false → AllByRecursion (λ (dim : ℕ × ℤ × ℤ). 0 < dim.0) dims
entries_some [] e = tt
entries_some (dim ∷ dims) e = let both = first_some dim.0 (shape_of dims) e in (both.0, entries_some dims both.1)

-- ---- places

walks_of : SlicesHaveSpans → (dim : ℕ × ℤ × ℤ) (parts : SliceParts) → IsSaturated parts → Walks dim.0 parts.step (before_first dim.0 parts) (picks_of dim.0 parts)
walks_of spans dim parts s = walks_slice spans dim.0 parts s.moves

nonzero_cut : (dims : List (ℕ × ℤ × ℤ)) (slices : List SliceParts) (indices : List ℕ) → length slices ≡ length dims → IsIndexList (shape_of (cut_dims dims slices)) indices → AreNonzero dims
nonzero_cut [] slices indices e h = tt
nonzero_cut (dim ∷ dims) [] indices e h = absurd (omega (arith, e))
nonzero_cut (dim ∷ dims) (parts ∷ slices) [] e h = absurd h
nonzero_cut (dim ∷ dims) (parts ∷ slices) (i ∷ indices) e h =
    (let low = h.0 in let few = few_picks dim.0 parts in omega (arith, low, few), nonzero_cut dims slices indices (omega (arith, e)) h.1)

within_cut : SlicesHaveSpans → (dims : List (ℕ × ℤ × ℤ)) (slices : List SliceParts) (indices : List ℕ) → AreSaturated slices → length slices ≡ length dims
    → IsIndexList (shape_of (cut_dims dims slices)) indices → IsIndexList (shape_of dims) (picked_indices (picks_of_each (shape_of dims) slices) indices)
within_cut spans [] slices [] s e h = tt
within_cut spans [] slices (i ∷ indices) s e h = absurd h
within_cut spans (dim ∷ dims) [] indices s e h = absurd (omega (arith, e))
within_cut spans (dim ∷ dims) (parts ∷ slices) [] s e h = absurd h
within_cut spans (dim ∷ dims) (parts ∷ slices) (i ∷ indices) s e h =
    (walk_below dim.0 parts.step (before_first dim.0 parts) (picks_of dim.0 parts) i (walks_of spans dim parts s.0) h.0, within_cut spans dims slices indices s.1 (omega (arith, e)) h.1)

exact : (dim : ℕ × ℤ × ℤ) (step before : ℤ) (xs : List ℕ) → ((a b : ℕ) (s : ℤ) → a < dim.0 → b < dim.0 → pos b *ℤ dim.1 ≡ pos a *ℤ dim.1 +ℤ s → SFits w64 s) → Walks dim.0 step before xs → 1 < length xs
    → nearest_word (dim.1 *ℤ step) ≡ dim.1 *ℤ step
exact dim step before xs spread w h =
    nearest_word_fits (dim.1 *ℤ step)
    (spread (get_or xs 0 0) (get_or xs 1 0) (dim.1 *ℤ step) (walk_below dim.0 step before xs 0 w (omega (arith, h))) (walk_below dim.0 step before xs 1 w h)
    (ap (λ z. z *ℤ dim.1) (walk_two dim.0 step before xs w h) ∙ sum_times (pos (get_or xs 0 0)) step dim.1 ∙ ap (λ z. pos (get_or xs 0 0) *ℤ dim.1 +ℤ z) (*ℤ_comm step dim.1)))

plus_none : (a : ℤ) → pos 0 +ℤ a ≡ a
plus_none a = omega (arith, ints)

line_cut : (dim : ℕ × ℤ × ℤ) (step before : ℤ) (xs : List ℕ) (i : ℕ) → ((a b : ℕ) (s : ℤ) → a < dim.0 → b < dim.0 → pos b *ℤ dim.1 ≡ pos a *ℤ dim.1 +ℤ s → SFits w64 s) → Walks dim.0 step before xs → i < length xs
    → pos i *ℤ nearest_word (dim.1 *ℤ step) +ℤ pos (get_or xs 0 0) *ℤ dim.1 ≡ pos (get_or xs i 0) *ℤ dim.1
line_cut dim step before xs zero spread w h = ap (λ z. z +ℤ pos (get_or xs 0 0) *ℤ dim.1) (zero-*ℤ (nearest_word (dim.1 *ℤ step))) ∙ plus_none (pos (get_or xs 0 0) *ℤ dim.1)
line_cut dim step before xs (suc i) spread w h =
    ap₂ (λ t f. pos (suc i) *ℤ t +ℤ f *ℤ dim.1) (exact dim step before xs spread w (omega (arith, h))) (walk_first dim.0 step before xs w (omega (arith, h)))
    ∙ walk_line dim.0 step before dim.1 xs (suc i) w h

four_terms : (a b c d e f : ℤ) → c +ℤ a ≡ e → b +ℤ d ≡ f → a +ℤ b +ℤ (c +ℤ d) ≡ e +ℤ f
four_terms a b c d e f g h = omega (arith, ints, g, h)

none_and_none : pos 0 +ℤ pos 0 ≡ pos 0
none_and_none = refl

offset_cut : SlicesHaveSpans → (dims : List (ℕ × ℤ × ℤ)) (slices : List SliceParts) (indices : List ℕ) → AreSaturated slices → length slices ≡ length dims → AreSpread dims
    → IsIndexList (shape_of (cut_dims dims slices)) indices
    → offset_of (firsts_of (picks_of_each (shape_of dims) slices)) dims +ℤ offset_of indices (cut_dims dims slices) ≡ offset_of (picked_indices (picks_of_each (shape_of dims) slices) indices) dims
offset_cut spans [] slices [] s e spread h = none_and_none
offset_cut spans [] slices (i ∷ indices) s e spread h = absurd h
offset_cut spans (dim ∷ dims) [] indices s e spread h = absurd (omega (arith, e))
offset_cut spans (dim ∷ dims) (parts ∷ slices) [] s e spread h = absurd h
offset_cut spans (dim ∷ dims) (parts ∷ slices) (i ∷ indices) s e spread h =
    let picks : List ℕ = picks_of dim.0 parts in
    four_terms (pos (get_or picks 0 0) *ℤ dim.1) (offset_of (firsts_of (picks_of_each (shape_of dims) slices)) dims) (pos i *ℤ nearest_word (dim.1 *ℤ parts.step)) (offset_of indices (cut_dims dims slices))
    (pos (get_or picks i 0) *ℤ dim.1) (offset_of (picked_indices (picks_of_each (shape_of dims) slices) indices) dims)
    (line_cut dim parts.step (before_first dim.0 parts) picks i spread.0 (walks_of spans dim parts s.0) h.0)
    (offset_cut spans dims slices indices s.1 (omega (arith, e)) spread.1 h.1)

pub remap_cut : SlicesHaveSpans → (d : Descriptor) (start room : ℕ) (slices : List SliceParts) (next : ℕ) → room < 2 ^ 63 → IsValid d start room → AreSaturated slices → length slices ≡ length d.dims
    → (has_zero (counts_of (picks_of_each (shape_of d.dims) slices)) ≡ false → pos next ≡ pos start +ℤ offset_of (firsts_of (picks_of_each (shape_of d.dims) slices)) d.dims)
    → Remaps d.dims start (cut_dims d.dims slices) next (picked_indices (picks_of_each (shape_of d.dims) slices))
remap_cut spans d start room slices next fits valid s e next_is =
    record {
      within = λ indices h. within_cut spans d.dims slices indices s e h;
      same = λ indices h.
          let some : AreNonzero d.dims = nonzero_cut d.dims slices indices e h in
          let spread : AreSpread d.dims = spread_of d.itemsize room d.dims (pos start) fits some (recursion_from_All (IsInside d.itemsize room) (places d.dims (pos start)) valid.inside) in
          ap (λ z. z +ℤ offset_of indices (cut_dims d.dims slices)) (next_is (ap has_zero (sym (shape_cut d.dims slices)) ∙ some_from_indices (shape_of (cut_dims d.dims slices)) indices h))
          ∙ sum_associates (pos start) (offset_of (firsts_of (picks_of_each (shape_of d.dims) slices)) d.dims) (offset_of indices (cut_dims d.dims slices))
          ∙ ap (λ z. pos start +ℤ z) (offset_cut spans d.dims slices indices s e spread h);
    }

-- ---- a valid descriptor

moves_cut : (dims : List (ℕ × ℤ × ℤ)) (slices : List SliceParts) → AreSaturated slices → AllByRecursion (λ (dim : ℕ × ℤ × ℤ). dim.1 ≢ pos 0) dims → AllByRecursion (λ (dim : ℕ × ℤ × ℤ). dim.1 ≢ pos 0) (cut_dims dims slices)
moves_cut [] slices s h = tt
moves_cut (dim ∷ dims) [] s h = tt
moves_cut (dim ∷ dims) (parts ∷ slices) s h = (nearest_word_nonzero (dim.1 *ℤ parts.step) (product_is_nonzero dim.1 parts.step h.0 s.0.moves), moves_cut dims slices s.1 h.1)

direct_cut : (dims : List (ℕ × ℤ × ℤ)) (slices : List SliceParts) → AllByRecursion (λ (dim : ℕ × ℤ × ℤ). dim.2 ≡ pos 0) dims → AllByRecursion (λ (dim : ℕ × ℤ × ℤ). dim.2 ≡ pos 0) (cut_dims dims slices)
direct_cut [] slices h = tt
direct_cut (dim ∷ dims) [] h = tt
direct_cut (dim ∷ dims) (parts ∷ slices) h = (h.0, direct_cut dims slices h.1)

pub length_cut : (dims : List (ℕ × ℤ × ℤ)) (slices : List SliceParts) → length (cut_dims dims slices) ≤ length dims
length_cut [] slices = omega arith
length_cut (dim ∷ dims) [] = omega arith
length_cut (dim ∷ dims) (parts ∷ slices) = let less = length_cut dims slices in omega (arith, less)

extent_entry : (k n : ℕ) (shape other : List ℕ) → k ≤ n → product (nonzero_entries shape) ≤ product (nonzero_entries other) → product (nonzero_entries (k ∷ shape)) ≤ product (nonzero_entries (n ∷ other))
extent_entry zero zero shape other h g = g
extent_entry zero (suc n) shape other h g =
    let more : product (nonzero_entries other) ≤ product (nonzero_entries other) * suc n = le-mul_of_pos_right (product (nonzero_entries other)) (zero-lt-suc n) in omega (arith, more, g)
extent_entry (suc k) zero shape other h g = absurd (omega (arith, h))
extent_entry (suc k) (suc n) shape other h g = mul-le-mul h g

extent_cut : (dims : List (ℕ × ℤ × ℤ)) (slices : List SliceParts) → product (nonzero_entries (shape_of (cut_dims dims slices))) ≤ product (nonzero_entries (shape_of dims))
extent_cut [] slices = le_refl 1
extent_cut (dim ∷ dims) [] = positive_extent (shape_of (dim ∷ dims))
extent_cut (dim ∷ dims) (parts ∷ slices) =
    extent_entry (length (picks_of dim.0 parts)) dim.0 (shape_of (cut_dims dims slices)) (shape_of dims) (few_picks dim.0 parts) (extent_cut dims slices)

later_cut : (dims : List (ℕ × ℤ × ℤ)) → has_zero (drop 1 (shape_of dims)) ≡ false → All (λ (dim : ℕ × ℤ × ℤ). 0 < dim.0) (drop 1 dims)
later_cut [] e = All-from_recursion (λ (dim : ℕ × ℤ × ℤ). 0 < dim.0) [] tt
later_cut (dim ∷ dims) e = All-from_recursion (λ (d : ℕ × ℤ × ℤ). 0 < d.0) dims (entries_some dims e)

pub sound_cut : (d : Descriptor) (start room : ℕ) (slices : List SliceParts) → IsValid d start room → AreSaturated slices → has_zero (drop 1 (shape_of (cut_dims d.dims slices))) ≡ false
    → AreSound d.itemsize (cut_dims d.dims slices)
sound_cut d start room slices valid s some =
    record {
      few = (let less = length_cut d.dims slices in let few = valid.few_dimensions in omega (arith, less, few));
      strides = All-from_recursion (λ (dim : ℕ × ℤ × ℤ). dim.1 ≢ pos 0) (cut_dims d.dims slices) (moves_cut d.dims slices s (recursion_from_All (λ (dim : ℕ × ℤ × ℤ). dim.1 ≢ pos 0) d.dims valid.strides));
      suboffsets = All-from_recursion (λ (dim : ℕ × ℤ × ℤ). dim.2 ≡ pos 0) (cut_dims d.dims slices) (direct_cut d.dims slices (recursion_from_All (λ (dim : ℕ × ℤ × ℤ). dim.2 ≡ pos 0) d.dims valid.suboffsets));
      later_entries = later_cut (cut_dims d.dims slices) some;
      extent_fits = lt_of_le_of_lt (mul-le-mul_left d.itemsize (extent_cut d.dims slices)) valid.extent_fits;
    }

-- ---- what a selection answers

selection_is : (d : Descriptor) (view : Layout) (slices : List SliceParts) → shape_of d.dims ≡ view.shape → strides_of d.dims ≡ view.strides
    → view_by view (counts_of (picks_of_each (shape_of d.dims) slices)) (strides_after (strides_of d.dims) slices) (picked_indices (picks_of_each (shape_of d.dims) slices)) ≡ selection_of view slices
selection_is d view slices e f =
    ap₂ (λ (shape : List ℕ) (strides : List ℤ). view_by view (counts_of (picks_of_each shape slices)) (strides_after strides slices) (picked_indices (picks_of_each shape slices))) e f

pub stands_cut : SlicesHaveSpans → (d : Descriptor) (start : ℕ) (slices : List SliceParts) (next : ℕ) (view : Layout) → IsPlaced d start → AreSaturated slices → length slices ≡ length d.dims
    → (has_zero (counts_of (picks_of_each (shape_of d.dims) slices)) ≡ false → pos next ≡ pos start +ℤ offset_of (firsts_of (picks_of_each (shape_of d.dims) slices)) d.dims)
    → Stands d start view → Stands (in_dims d (cut_dims d.dims slices)) next (selection_of view slices)
stands_cut spans d start slices next view placed s e next_is stands =
    subst (λ (w : Layout). Stands (in_dims d (cut_dims d.dims slices)) next w) (selection_is d view slices stands.shape stands.strides)
    (stands_remap d start (cut_dims d.dims slices) next (picked_indices (picks_of_each (shape_of d.dims) slices)) view (counts_of (picks_of_each (shape_of d.dims) slices)) (strides_after (strides_of d.dims) slices)
    (remap_cut spans d start placed.room slices next placed.room_fits placed.valid s e next_is) stands (shape_cut d.dims slices) (strides_cut d.dims slices s))

pub valid_cut : SlicesHaveSpans → (d : Descriptor) (start : ℕ) (slices : List SliceParts) (next room : ℕ) → IsPlaced d start → AreSaturated slices → length slices ≡ length d.dims
    → (has_zero (counts_of (picks_of_each (shape_of d.dims) slices)) ≡ false → pos next ≡ pos start +ℤ offset_of (firsts_of (picks_of_each (shape_of d.dims) slices)) d.dims)
    → has_zero (drop 1 (shape_of (cut_dims d.dims slices))) ≡ false
    → IsValid d start room → IsValid (in_dims d (cut_dims d.dims slices)) next room
valid_cut spans d start slices next room placed s e next_is some valid =
    valid_remap d start (cut_dims d.dims slices) next (picked_indices (picks_of_each (shape_of d.dims) slices)) room
    (remap_cut spans d start placed.room slices next placed.room_fits placed.valid s e next_is) (sound_cut d start room slices valid s some) valid

-- The parts that selections and transpositions show.
use Rattle.std.proofs.Common.{◌≡◌, ℕ, zero, suc, ◌+◌, ◌-◌, ◌*◌, ◌<◌, ◌≤◌, true, false, List, [], ◌∷◌, length, refl, ap, sym, subst, ◌∙◌, arith, IsPermutation, mul_comm}
use Rattle.std.specs.Prelude.{codes, slice_index, drop}
use Rattle.std.specs.List.{range_with_len}
use Rattle.std.specs.declared.ops.Range.{Range}
use Rattle.std.proofs.lemmas.Slice.Eq.{bytes_eq-Decides}
use Rattle.std.proofs.lemmas.List.FromFn.{length-range_with_len, get_or-range_with_len, get_or-map-range_with_len}
use Rattle.std.proofs.lemmas.Nat.{mul-add-lt}
use Rattle.std.proofs.Math.Nat.{mul-pos}
use Rattle.pybuf_desc.specs.Facts.{whole_starts}
use Rattle.pybuf_index.specs.Parts.{SliceParts}
use Rattle.pybuf_desc.specs.Layouts.{Layout, LiesInside, bytes_layout}
use Rattle.pybuf_desc.specs.Contiguous.{starts_from, is_contiguous_layout}
use Rattle.pybuf_desc.specs.ShapedCasts.{cast_to}
use Rattle.pybuf_desc.specs.Laws.{ShapedCastsStayInside}
use Rattle.pybuf_desc.specs.ColumnOrder.{start_at, number_at}
use Rattle.pybuf_nd.specs.IndexMaps.{IsIndexList}
use Rattle.pybuf_nd.specs.Selections.{has_zero, selection_of, picks_of_each, counts_of, picked_indices, strides_after}
use Rattle.pybuf_nd.specs.Axes.{view_in_order, indices_by_axis}
use Rattle.pybuf_nd.specs.Laws.{ViewsGoByIndices}
use Rattle.example_picture.specs.Parts.{Part, place, Shows, IsCropped, IsFlipped, IsTurned, IsWhole}
use Rattle.example_picture.specs.Cuts.{part_of, IsFrame, IsSome, all_of, backwards, between}
use Rattle.example_picture.proofs.AxisLemmas.{IsAxis, axis_all, axis_backwards, axis_between}

-- ---- frames

pub frame_of : (view : Layout) (n m k : ℕ) → view.format ≡ codes "B" → view.itemsize ≡ 1 → view.readonly ≡ false → view.shape ≡ n ∷ m ∷ k ∷ [] → 0 < n → 0 < m → 0 < k → IsFrame view
frame_of view n m k format size writable shape row column channel = record {
  format = format;
  itemsize = size;
  writable = writable;
  shape = shape ∙ sym (ap (λ (s : List ℕ). slice_index s 0 ∷ slice_index s 1 ∷ slice_index s 2 ∷ []) shape);
  some_row = subst (λ (s : List ℕ). 0 < slice_index s 0) (sym shape) row;
  some_column = subst (λ (s : List ℕ). 0 < slice_index s 1) (sym shape) column;
  some_channel = subst (λ (s : List ℕ). 0 < slice_index s 2) (sym shape) channel;
}

some_zero : (n m : ℕ) → 0 < n → 0 < m → has_zero (n ∷ m ∷ []) ≡ false
some_zero zero m p q = absurd (omega (arith, p))
some_zero (suc n) zero p q = absurd (omega (arith, q))
some_zero (suc n) (suc m) p q = refl

listed : {X : Type 0} (a b c d e f : X) → a ≡ d → b ≡ e → c ≡ f → (a ∷ b ∷ c ∷ []) ≡ (d ∷ e ∷ f ∷ [])
listed a b c d e f p q s = ap (λ x. x ∷ b ∷ c ∷ []) p ∙ ap (λ x. d ∷ x ∷ c ∷ []) q ∙ ap (λ x. d ∷ e ∷ x ∷ []) s

pub slices_listed : (a b c d e f : SliceParts) → a ≡ d → b ≡ e → c ≡ f → (a ∷ b ∷ c ∷ []) ≡ (d ∷ e ∷ f ∷ [])
slices_listed a b c d e f p q s = listed a b c d e f p q s

-- ---- what a selection shows

-- A view has this many rows, columns and channels. At each pixel it shows what another view shows at the pixel
-- that `f` and `g` give.
pub record IsCut (view made : Layout) (n m k : ℕ) (f g : ℕ → ℕ) : Type 0 where
  pub shape : made.shape ≡ n ∷ m ∷ k ∷ []
  pub at : (i j l : ℕ) → i < n → j < m → l < k → start_at made (i ∷ j ∷ l ∷ []) ≡ start_at view (f i ∷ g j ∷ l ∷ [])

module _ (view : Layout) (r c k n m : ℕ) (a b d : SliceParts) (f g : ℕ → ℕ) (same : view.shape ≡ r ∷ c ∷ k ∷ []) (rows : IsAxis r a n f) (columns : IsAxis c b m g) (channels : IsAxis k d k (λ i. i)) where
  counts : counts_of (picks_of_each view.shape (a ∷ b ∷ d ∷ [])) ≡ n ∷ m ∷ k ∷ []
  counts =
      ap (λ (s : List ℕ). counts_of (picks_of_each s (a ∷ b ∷ d ∷ []))) same
      ∙ listed _ _ _ n m k rows.many columns.many channels.many

  pub cut_some : 0 < m → 0 < k → IsSome view.shape (a ∷ b ∷ d ∷ [])
  cut_some p q = ap (λ (s : List ℕ). has_zero (drop 1 s)) counts ∙ some_zero m k p q

  picked : (i j l : ℕ) → i < n → j < m → l < k → picked_indices (picks_of_each view.shape (a ∷ b ∷ d ∷ [])) (i ∷ j ∷ l ∷ []) ≡ f i ∷ g j ∷ l ∷ []
  picked i j l p q s =
      ap (λ (xs : List ℕ). picked_indices (picks_of_each xs (a ∷ b ∷ d ∷ [])) (i ∷ j ∷ l ∷ [])) same
      ∙ listed _ _ _ (f i) (g j) l (rows.at i p) (columns.at j q) (channels.at l s)

  pub cut : ViewsGoByIndices → IsCut view (selection_of view (a ∷ b ∷ d ∷ [])) n m k f g
  cut law = record {
    shape = counts;
    at = λ i j l p q s.
        (law view (counts_of (picks_of_each view.shape (a ∷ b ∷ d ∷ []))) (strides_after view.strides (a ∷ b ∷ d ∷ [])) (picked_indices (picks_of_each view.shape (a ∷ b ∷ d ∷ [])))).at (i ∷ j ∷ l ∷ []) (subst (λ (xs : List ℕ). IsIndexList xs (i ∷ j ∷ l ∷ [])) (sym counts) (p, (q, (s, tt))))
        ∙ ap (λ (xs : List ℕ). start_at view xs) (picked i j l p q s);
  }

-- the place of a level by its indices
pub place_is : (view : Layout) (i j l : ℕ) → IsFrame view → start_at view (i ∷ j ∷ l ∷ []) ≡ place (part_of view) i j l
place_is view i j l is =
    let c : ℕ = (part_of view).columns in
    let k : ℕ = (part_of view).channels in
    let one : k * 1 ≡ k = omega arith in
    let last : l * 1 + 0 ≡ l = omega arith in
    ap (λ (s : List ℕ). slice_index view.starts (number_at s (i ∷ j ∷ l ∷ []))) is.shape
    ∙ ap (λ (m : ℕ). slice_index view.starts (i * (c * m) + (j * m + (l * 1 + 0)))) one
    ∙ ap (λ (m : ℕ). slice_index view.starts (i * (c * k) + (j * k + m))) last

pub shown : (view made : Layout) (n m : ℕ) (f g : ℕ → ℕ) → IsFrame view → IsFrame made → IsCut view made n m (part_of view).channels f g → Shows (part_of view) (part_of made) n m (λ row column. (f row, g column))
shown view made n m f g frame framed is = record {
  rows = ap (λ (s : List ℕ). slice_index s 0) is.shape;
  columns = ap (λ (s : List ℕ). slice_index s 1) is.shape;
  channels = ap (λ (s : List ℕ). slice_index s 2) is.shape;
  pixels = λ row column channel p q s. sym (place_is made row column channel framed) ∙ is.at row column channel p q s ∙ place_is view (f row) (g column) channel frame;
}

-- ---- the three ways to make a part

pub flip_some : (view : Layout) → IsFrame view → IsSome view.shape (all_of ∷ backwards ∷ all_of ∷ [])
flip_some view is = cut_some view _ _ _ _ _ all_of backwards all_of (λ i. i) _ is.shape (axis_all _) (axis_backwards _) (axis_all _) is.some_column is.some_channel

pub flip_cut : ViewsGoByIndices → (view : Layout) → IsFrame view → IsCut view (selection_of view (all_of ∷ backwards ∷ all_of ∷ [])) (part_of view).rows (part_of view).columns (part_of view).channels (λ i. i) (λ i. (part_of view).columns - 1 - i)
flip_cut law view is = cut view _ _ _ _ _ all_of backwards all_of (λ i. i) _ is.shape (axis_all _) (axis_backwards _) (axis_all _) law

pub flip_frame : ViewsGoByIndices → (view : Layout) → IsFrame view → IsFrame (selection_of view (all_of ∷ backwards ∷ all_of ∷ []))
flip_frame law view is = frame_of _ _ _ _ is.format is.itemsize is.writable (flip_cut law view is).shape is.some_row is.some_column is.some_channel

pub flip_shows : ViewsGoByIndices → (view : Layout) → IsFrame view → IsFlipped (part_of view) (part_of (selection_of view (all_of ∷ backwards ∷ all_of ∷ [])))
flip_shows law view is = shown view _ _ _ _ _ is (flip_frame law view is) (flip_cut law view is)

module _ (view : Layout) (is : IsFrame view) (rows columns : Range ℕ) (some_row : rows.start < rows.end) (row : rows.end ≤ (part_of view).rows) (some_column : columns.start < columns.end) (column : columns.end ≤ (part_of view).columns) where
  pub crop_some : IsSome view.shape (between rows ∷ between columns ∷ all_of ∷ [])
  crop_some =
      cut_some view _ _ _ _ _ (between rows) (between columns) all_of _ _ is.shape (axis_between _ rows some_row row) (axis_between _ columns some_column column) (axis_all _) (omega (arith, some_column)) is.some_channel

  pub crop_cut : ViewsGoByIndices → IsCut view (selection_of view (between rows ∷ between columns ∷ all_of ∷ [])) (rows.end - rows.start) (columns.end - columns.start) (part_of view).channels (λ i. rows.start + i) (λ i. columns.start + i)
  crop_cut law =
      cut view _ _ _ _ _ (between rows) (between columns) all_of _ _ is.shape (axis_between _ rows some_row row) (axis_between _ columns some_column column) (axis_all _) law

  pub crop_frame : ViewsGoByIndices → IsFrame (selection_of view (between rows ∷ between columns ∷ all_of ∷ []))
  crop_frame law =
      frame_of _ _ _ _ is.format is.itemsize is.writable (crop_cut law).shape (omega (arith, some_row)) (omega (arith, some_column)) is.some_channel

  pub crop_shows : ViewsGoByIndices → IsCropped (part_of view) rows columns (part_of (selection_of view (between rows ∷ between columns ∷ all_of ∷ [])))
  crop_shows law = shown view _ _ _ _ _ is (crop_frame law) (crop_cut law)

-- ---- rows and columns change places

pub swap_axes : (count : ℕ) → count ≡ 3 → IsPermutation (range_with_len 0 count) (1 ∷ 0 ∷ 2 ∷ [])
swap_axes count three =
    subst (λ (n : ℕ). IsPermutation (range_with_len 0 n) (1 ∷ 0 ∷ 2 ∷ [])) (sym three)
    (record { moves = (0, 1) ∷ []; below = (let one : 0 < 3 = omega arith in one, let two : 1 < 3 = omega arith in two, tt); is = refl })

abbrev pub swapped : Layout → Layout
swapped view = view_in_order view (1 ∷ 0 ∷ 2 ∷ [])

swapped_shape : (view : Layout) → (swapped view).shape ≡ (part_of view).columns ∷ (part_of view).rows ∷ (part_of view).channels ∷ []
swapped_shape view = refl

pub swapped_frame : (view : Layout) → IsFrame view → IsFrame (swapped view)
swapped_frame view is = frame_of _ _ _ _ is.format is.itemsize is.writable (swapped_shape view) is.some_column is.some_row is.some_channel

swapped_at : ViewsGoByIndices → (view : Layout) (i j l : ℕ) → i < (part_of view).columns → j < (part_of view).rows → l < (part_of view).channels
    → start_at (swapped view) (i ∷ j ∷ l ∷ []) ≡ start_at view (j ∷ i ∷ l ∷ [])
swapped_at law view i j l p q s =
    let inside : IsIndexList (swapped view).shape (i ∷ j ∷ l ∷ []) = (p, (q, (s, tt))) in
    (law view (swapped view).shape (swapped view).strides (indices_by_axis (1 ∷ 0 ∷ 2 ∷ []))).at (i ∷ j ∷ l ∷ []) inside

pub turn_shows : ViewsGoByIndices → (view : Layout) (made : Part) → IsFrame view → IsFlipped (part_of (swapped view)) made → IsTurned (part_of view) made
turn_shows law view made frame is = record {
  rows = is.rows;
  columns = is.columns;
  channels = is.channels;
  pixels = λ row column channel p q s.
      is.pixels row column channel p q s
      ∙ sym (place_is (swapped view) row ((part_of view).rows - 1 - column) channel (swapped_frame view frame))
      ∙ swapped_at law view row ((part_of view).rows - 1 - column) channel p (omega (arith, q)) s
      ∙ place_is view ((part_of view).rows - 1 - column) row channel frame;
}

-- ---- all of a picture

pub contiguous_whole : (n : ℕ) (view : Layout) → view ≡ bytes_layout n false → is_contiguous_layout view ≡ true
contiguous_whole n view is =
    ap is_contiguous_layout is ∙ (bytes_eq-Decides (range_with_len 0 n) (starts_from (range_with_len 0 n) 1 (length (range_with_len 0 n)))).1 (whole_starts n)

pub inside_whole : (n : ℕ) → LiesInside n (bytes_layout n false)
inside_whole n = λ k d below.
    let within : k < n = omega (arith, below, length-range_with_len 0 n) in
    omega (arith, within, get_or-range_with_len 0 n k d within)

from_zero : (n p i : ℕ) → i < p → 0 < n → slice_index (starts_from (range_with_len 0 n) 1 p) i ≡ i
from_zero zero p i below some = absurd (omega (arith, some))
from_zero (suc n) p i below some = get_or-map-range_with_len (λ k. 0 + k * 1) 0 p i i 0 below (omega arith) ∙ (let same : 0 + i * 1 ≡ i = omega arith in same)

pub whole_shows : (count rows columns channels : ℕ) → count ≡ rows * (columns * channels) → 0 < rows → 0 < columns → 0 < channels
    → IsWhole rows columns channels (part_of (cast_to (bytes_layout count false) (codes "B") 1 (rows ∷ columns ∷ channels ∷ [])))
whole_shows count rows columns channels size some_row some_column some_channel = record {
  rows = refl;
  columns = refl;
  channels = refl;
  pixels = λ row column channel p q s.
      let one : channels * 1 ≡ channels = omega arith in
      let in_row : column * channels + channel < columns * channels = (let far = mul-add-lt column channels channel columns q s in omega (arith, far, mul_comm channels columns)) in
      let inside : row * (columns * channels) + (column * channels + channel) < rows * (columns * channels) =
      (let far = mul-add-lt row (columns * channels) (column * channels + channel) rows p in_row in omega (arith, far, mul_comm (columns * channels) rows)) in
      let some : 0 < count = subst (λ (n : ℕ). 0 < n) (sym size) (mul-pos some_row (mul-pos some_column some_channel)) in
      ap (λ (k : ℕ). slice_index (starts_from (range_with_len 0 count) 1 (rows * (columns * k))) (row * (columns * channels) + (column * channels + channel))) one
      ∙ from_zero count (rows * (columns * channels)) _ inside some;
}

pub whole_inside : ShapedCastsStayInside → (count rows columns channels : ℕ) → count ≡ rows * (columns * channels)
    → LiesInside count (cast_to (bytes_layout count false) (codes "B") 1 (rows ∷ columns ∷ channels ∷ []))
whole_inside law count rows columns channels size =
    let one : channels * 1 ≡ channels = omega arith in
    let long : length (range_with_len 0 count) ≡ count = length-range_with_len 0 count in
    let same : rows * (columns * (channels * 1)) ≡ count = ap (λ (k : ℕ). rows * (columns * k)) one ∙ sym size in
    law (bytes_layout count false) (codes "B") 1 (rows ∷ columns ∷ channels ∷ []) count (contiguous_whole count (bytes_layout count false) refl) (omega arith) (omega (arith, long, same)) (inside_whole count)

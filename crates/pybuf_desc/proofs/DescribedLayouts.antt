-- Views that descriptors stand for.
use Rattle.std.proofs.Common.{◌≡◌, ℕ, zero, suc, ◌+◌, ◌*◌, ◌<◌, ◌≤◌, ℤ, pos, ◌+ℤ◌, nat_abs, Bool, true, false, List, [], ◌∷◌, length, get_or, map, refl, ap, ap₂, sym, ◌∙◌, subst, arith, IsTrue, ◌↔◌}
use Rattle.std.proofs.lemmas.Int.{ints}
use Rattle.std.proofs.lemmas.List.{length-map}
use Rattle.std.proofs.lemmas.List.Elements.{All-nil, All-cons, All-head, All-tail, recursion_from_All}
use Rattle.std.proofs.lemmas.Slice.Eq.{bytes_eq-Decides}
use Rattle.std.specs.Prelude.{All, Some, slice_get}
use Rattle.std.specs.Bool.{Decides}
use Rattle.std.specs.List.{range_with_len}
use Rattle.pybuf_lemmas.proofs.Lists.{sizes_of_naturals}
use Rattle.pybuf_lemmas.proofs.Integers.{size_of_nonnegative}
use Rattle.pybuf_desc.specs.Facts.{length-places}
use Rattle.pybuf_desc.specs.Layouts.{Layout, LiesInside, HasItemsOfItsShape, product}
use Rattle.pybuf_desc.specs.Contiguous.{starts_from, is_contiguous_layout}
use Rattle.pybuf_desc.specs.Strides.{AreRowMajor, HasRowMajorStrides}
use Rattle.pybuf_desc.specs.Descriptor.{Descriptor, shape_of, strides_of}
use Rattle.pybuf_desc.specs.Places.{places, Stands, layout_at}
use Rattle.pybuf_desc.specs.Valid.{IsInside, IsValid, IsPlaced, IsPlaceable}
use Rattle.pybuf_desc.specs.RowMajor.{IsContiguous, AreRowMajorStrides}
use Rattle.pybuf_desc.specs.Positions.{AreIndices, offset_of, number_of_item}
use Rattle.pybuf_desc.specs.Laws.{IsPosition}
use Rattle.pybuf_desc.proofs.Runs.{first-places}
use Rattle.pybuf_desc.proofs.Strides.{contiguous_without_items, contiguous_by_strides, some_entries}
use Rattle.pybuf_desc.proofs.Indices.{AreNonzero-from_indices, place_of_item, number_below}
use Rattle.pybuf_desc.proofs.Track.{here}

-- ---- the view of a descriptor

pos_of_abs : (size room : ℕ) (ps : List ℤ) → All (IsInside size room) ps → map (λ x. pos x) (map nat_abs ps) ≡ ps
pos_of_abs size room [] all = refl
pos_of_abs size room (p ∷ ps) all =
    ap₂ (λ (q : ℤ) (qs : List ℤ). q ∷ qs) (size_of_nonnegative p (All-head (IsInside size room) p ps all).low) (pos_of_abs size room ps (All-tail (IsInside size room) p ps all))

pub stands_at : (d : Descriptor) (start : ℕ) → IsPlaced d start → Stands d start (layout_at d start)
stands_at d start placed = record {
  format = refl;
  itemsize = refl;
  shape = refl;
  strides = refl;
  readonly = refl;
  starts = sym (pos_of_abs d.itemsize placed.room (places d.dims (pos start)) placed.valid.inside);
}

pub starts_of_stands : (d : Descriptor) (start : ℕ) (view : Layout) → Stands d start view → map nat_abs (places d.dims (pos start)) ≡ view.starts
starts_of_stands d start view stands = ap (map nat_abs) stands.starts ∙ sizes_of_naturals view.starts

pub one_view : (d : Descriptor) (start : ℕ) (view : Layout) → Stands d start view → view ≡ layout_at d start
one_view d start view stands =
    let starts = starts_of_stands d start view stands in
    rw (stands.format, stands.itemsize, stands.shape, starts, stands.strides, stands.readonly) refl

pub items_of : (d : Descriptor) (start : ℕ) (view : Layout) → Stands d start view → length view.starts ≡ product (shape_of d.dims)
items_of d start view stands = sym (length-map view.starts (λ x. pos x)) ∙ ap (λ (ps : List ℤ). length ps) (sym stands.starts) ∙ length-places d.dims (pos start)

pub described_shape : (d : Descriptor) (start : ℕ) (view : Layout) → Stands d start view → HasItemsOfItsShape view
described_shape d start view stands = items_of d start view stands ∙ ap product stands.shape

-- ---- where it is valid

items_inside : (size room : ℕ) (starts : List ℕ) → All (λ start. start + size ≤ room) starts → All (IsInside size room) (map (λ x. pos x) starts)
items_inside size room [] all = All-nil (IsInside size room)
items_inside size room (s ∷ starts) all =
    let ends : s + size ≤ room = All-head (λ start. start + size ≤ room) s starts all in
    All-cons (IsInside size room) (pos s) (map (λ x. pos x) starts) (record { low = omega (arith, ints); high = omega (arith, ints, ends) })
    (items_inside size room starts (All-tail (λ start. start + size ≤ room) s starts all))

inside_items : (size room : ℕ) (starts : List ℕ) → All (IsInside size room) (map (λ x. pos x) starts) → All (λ start. start + size ≤ room) starts
inside_items size room [] all = All-nil (λ start. start + size ≤ room)
inside_items size room (s ∷ starts) all =
    let within = All-head (IsInside size room) (pos s) (map (λ x. pos x) starts) all in
    All-cons (λ start. start + size ≤ room) s starts (let high = within.high in omega (arith, ints, high))
    (inside_items size room starts (All-tail (IsInside size room) (pos s) (map (λ x. pos x) starts) all))

valid_from_inside : (d : Descriptor) (start room : ℕ) (view : Layout) → IsPlaced d start → Stands d start view → LiesInside room view → IsValid d start room
valid_from_inside d start room view placed stands inside = record {
  some_size = placed.valid.some_size;
  size_fits = placed.valid.size_fits;
  few_dimensions = placed.valid.few_dimensions;
  strides = placed.valid.strides;
  suboffsets = placed.valid.suboffsets;
  later_entries = placed.valid.later_entries;
  extent_fits = placed.valid.extent_fits;
  len = placed.valid.len;
  inside = subst (All (IsInside d.itemsize room)) (sym stands.starts)
      (subst (λ (size : ℕ). All (IsInside size room) (map (λ x. pos x) view.starts)) (sym stands.itemsize) (items_inside view.itemsize room view.starts inside));
}

inside_from_valid : (d : Descriptor) (start room : ℕ) (view : Layout) → Stands d start view → IsValid d start room → LiesInside room view
inside_from_valid d start room view stands valid =
    inside_items view.itemsize room view.starts
    (subst (λ (size : ℕ). All (IsInside size room) (map (λ x. pos x) view.starts)) stands.itemsize (subst (All (IsInside d.itemsize room)) stands.starts valid.inside))

pub valid_where_inside : (d : Descriptor) (start room : ℕ) (view : Layout) → IsPlaced d start → Stands d start view → (LiesInside room view) ↔ (IsValid d start room)
valid_where_inside d start room view placed stands = (valid_from_inside d start room view placed stands, inside_from_valid d start room view stands)

-- ---- without a gap

pub pos_of_run : (s size : ℕ) (ks : List ℕ) → map (λ k. pos s +ℤ pos (k * size)) ks ≡ map (λ x. pos x) (map (λ k. s + k * size) ks)
pos_of_run s size [] = refl
pos_of_run s size (k ∷ ks) = ap (λ (ps : List ℤ). pos (s + k * size) ∷ ps) (pos_of_run s size ks)

same_run : (size : ℕ) (starts : List ℕ) (start : ℤ) (ps : List ℤ) → ps ≡ map (λ x. pos x) starts → (0 < length ps → get_or ps 0 (pos 0) ≡ start)
    → (IsContiguous size start ps) ↔ (starts ≡ starts_from starts size (length starts))
same_run size [] start ps same first = ((λ _. refl), (λ _. rw same refl))
same_run size (s ∷ starts) start ps same first =
    let some : 0 < length ps = rw same (omega arith) in
    let from : start ≡ pos s = sym (first some) ∙ ap (λ (qs : List ℤ). get_or qs 0 (pos 0)) same in
    let count : length ps ≡ length (s ∷ starts) = ap length same ∙ length-map (s ∷ starts) (λ x. pos x) in
    let run : List ℕ = starts_from (s ∷ starts) size (length (s ∷ starts)) in
    let each : map (λ k. start +ℤ pos (k * size)) (range_with_len 0 (length ps)) ≡ map (λ x. pos x) run =
    ap (λ (n : ℕ). map (λ k. start +ℤ pos (k * size)) (range_with_len 0 n)) count ∙ ap (λ (p : ℤ). map (λ k. p +ℤ pos (k * size)) (range_with_len 0 (length (s ∷ starts)))) from ∙ pos_of_run s size (range_with_len 0 (length (s ∷ starts))) in (
      (λ flat. sym (sizes_of_naturals (s ∷ starts)) ∙ ap (map nat_abs) (sym same ∙ flat ∙ each) ∙ sizes_of_naturals run),
      (λ flat. same ∙ ap (map (λ x. pos x)) flat ∙ sym each),
    )

pub first_place : (d : Descriptor) (start : ℤ) → 0 < length (places d.dims start) → get_or (places d.dims start) 0 (pos 0) ≡ start
first_place d start some = first-places d.dims start (pos 0) (some_entries d.dims (subst (λ (n : ℕ). 0 < n) (length-places d.dims start) some))

-- the places of the descriptor lie without a gap exactly if those of its view do
pub runs_alike : (d : Descriptor) (start : ℕ) (view : Layout) → Stands d start view → (IsContiguous d.itemsize (pos start) (places d.dims (pos start))) ↔ (view.starts ≡ starts_from view.starts view.itemsize (length view.starts))
runs_alike d start view stands =
    subst (λ (size : ℕ). (IsContiguous d.itemsize (pos start) (places d.dims (pos start))) ↔ (view.starts ≡ starts_from view.starts size (length view.starts))) stands.itemsize
    (same_run d.itemsize view.starts (pos start) (places d.dims (pos start)) stands.starts (first_place d (pos start)))

decides : (view : Layout) → Decides (is_contiguous_layout view) (view.starts ≡ starts_from view.starts view.itemsize (length view.starts))
decides view = bytes_eq-Decides view.starts (starts_from view.starts view.itemsize (length view.starts))

pub contiguous_alike : (d : Descriptor) (start : ℕ) (view : Layout) → Stands d start view → (IsContiguous d.itemsize (pos start) (places d.dims (pos start))) ↔ (is_contiguous_layout view ≡ true)
contiguous_alike d start view stands =
    let both = runs_alike d start view stands in
    ((λ flat. (decides view).1 (both.0 flat)), (λ told. both.1 ((decides view).0 told)))

by_count : (size n : ℕ) (dims : List (ℕ × ℤ × ℤ)) (start from : ℤ) → n ≡ product (shape_of dims) → IsContiguous size start (places dims start) → IsContiguous size from (places dims from)
by_count size zero dims start from count flat = contiguous_without_items size dims from (sym count)
by_count size (suc n) dims start from count flat =
    let some : 0 < product (shape_of dims) = omega (arith, count) in
    let entries = some_entries dims some in
    (contiguous_by_strides size dims from entries).0 ((contiguous_by_strides size dims start entries).1 flat)

-- items that lie without a gap from one start do so from any start
pub contiguous_anywhere : (d : Descriptor) (start from : ℤ) → IsContiguous d.itemsize start (places d.dims start) → IsContiguous d.itemsize from (places d.dims from)
contiguous_anywhere d start from flat = by_count d.itemsize (product (shape_of d.dims)) d.dims start from refl flat

pub gapless_placed : (d : Descriptor) → IsPlaceable d → ((start : ℕ) (view : Layout) → Stands d start view → is_contiguous_layout view ≡ true) → (start : ℤ) → IsContiguous d.itemsize start (places d.dims start)
gapless_placed d can told start =
    let stands = stands_at d can.start can.placed in
    contiguous_anywhere d (pos can.start) start ((contiguous_alike d can.start (layout_at d can.start) stands).1 (told can.start (layout_at d can.start) stands))

pub same_tests : (a b : Bool) → ((a ≡ true) → (b ≡ true)) → ((b ≡ true) → (a ≡ true)) → a ≡ b
same_tests true b f g = sym (f refl)
same_tests false true f g = g refl
same_tests false false f g = refl

pub told_by_places : (d : Descriptor) (start : ℕ) (view : Layout) (found : Bool) → Stands d start view → IsTrue found ↔ IsContiguous d.itemsize (pos start) (places d.dims (pos start)) → found ≡ is_contiguous_layout view
told_by_places d start view found stands tells =
    let both = contiguous_alike d start view stands in
    same_tests found (is_contiguous_layout view) (λ yes. both.0 (tells.0 yes)) (λ yes. tells.1 (both.1 yes))

pub same_anywhere : (d : Descriptor) (start other : ℕ) (view other_view : Layout) → Stands d start view → Stands d other other_view → is_contiguous_layout view ≡ is_contiguous_layout other_view
same_anywhere d start other view other_view stands stands_too =
    let one = contiguous_alike d start view stands in
    let two = contiguous_alike d other other_view stands_too in
    same_tests (is_contiguous_layout view) (is_contiguous_layout other_view)
    (λ yes. two.0 (contiguous_anywhere d (pos start) (pos other) (one.1 yes)))
    (λ yes. one.0 (contiguous_anywhere d (pos other) (pos start) (two.1 yes)))

-- ---- by strides

pub to_layout : (size : ℕ) (dims : List (ℕ × ℤ × ℤ)) → AreRowMajorStrides size dims → AreRowMajor size (shape_of dims) (strides_of dims)
to_layout size [] fit = tt
to_layout size (dim ∷ dims) fit = (fit.0, to_layout size dims fit.1)

pub from_layout : (size : ℕ) (dims : List (ℕ × ℤ × ℤ)) → AreRowMajor size (shape_of dims) (strides_of dims) → AreRowMajorStrides size dims
from_layout size [] fit = tt
from_layout size (dim ∷ dims) fit = (fit.0, from_layout size dims fit.1)

strides_alike : (d : Descriptor) (start : ℕ) (view : Layout) → Stands d start view → (AreRowMajorStrides d.itemsize d.dims) ↔ (HasRowMajorStrides view)
strides_alike d start view stands =
    subst (λ (size : ℕ). (AreRowMajorStrides d.itemsize d.dims) ↔ (AreRowMajor size view.shape view.strides)) stands.itemsize
    (subst (λ (shape : List ℕ). (AreRowMajorStrides d.itemsize d.dims) ↔ (AreRowMajor d.itemsize shape view.strides)) stands.shape
    (subst (λ (strides : List ℤ). (AreRowMajorStrides d.itemsize d.dims) ↔ (AreRowMajor d.itemsize (shape_of d.dims) strides)) stands.strides
    (to_layout d.itemsize d.dims, from_layout d.itemsize d.dims)))

pub by_strides : (d : Descriptor) (start : ℕ) (view : Layout) → Stands d start view → 0 < length view.starts → (is_contiguous_layout view ≡ true) ↔ (HasRowMajorStrides view)
by_strides d start view stands some =
    let entries = some_entries d.dims (subst (λ (n : ℕ). 0 < n) (items_of d start view stands) some) in
    let run = contiguous_by_strides d.itemsize d.dims (pos start) entries in
    let alike = contiguous_alike d start view stands in
    let strides = strides_alike d start view stands in
    ((λ told. strides.0 (run.1 (alike.1 told))), (λ fit. alike.0 (run.0 (strides.1 fit))))

-- ---- an item by its indices

start_of_map : (xs : List ℕ) (k : ℕ) (q : ℤ) → slice_get (map (λ x. pos x) xs) k ≡ Some q → slice_get xs k ≡ Some (nat_abs q)
start_of_map [] k q found = absurd (cc)
start_of_map (x ∷ xs) zero q found = let same : pos x ≡ q = cc in ap (λ (z : ℤ). Some (nat_abs z)) same
start_of_map (x ∷ xs) (suc k) q found = start_of_map xs k q found

pub inside_at : (size room : ℕ) (ps : List ℤ) (k : ℕ) (q : ℤ) → All (IsInside size room) ps → slice_get ps k ≡ Some q → IsInside size room q
inside_at size room [] k q all found = absurd (cc)
inside_at size room (p ∷ ps) zero q all found = let same : p ≡ q = cc in subst (IsInside size room) same (All-head (IsInside size room) p ps all)
inside_at size room (p ∷ ps) (suc k) q all found = inside_at size room ps k q (All-tail (IsInside size room) p ps all) found

pub position_is : (d : Descriptor) (start : ℕ) (view : Layout) (indices : List ℕ) → IsPlaced d start → Stands d start view → AreIndices indices d.dims
    → IsPosition view start (number_of_item indices d.dims) (offset_of indices d.dims)
position_is d start view indices placed stands within =
    let found = place_of_item indices d.dims (pos start) within in
    let item = inside_at d.itemsize placed.room (places d.dims (pos start)) (number_of_item indices d.dims) (pos start +ℤ offset_of indices d.dims) placed.valid.inside found in
    let first = here d.itemsize placed.room d.dims (pos start) (AreNonzero-from_indices indices d.dims within) (recursion_from_All (IsInside d.itemsize placed.room) (places d.dims (pos start)) placed.valid.inside) in
    record {
      item_exists = subst (λ (n : ℕ). number_of_item indices d.dims < n) (sym (items_of d start view stands)) (number_below indices d.dims within);
      start_fits = (let fits = placed.room_fits in let high = first.1 in omega (arith, ints, fits, high));
      low = item.low;
      high = (let fits = placed.room_fits in let high = item.high in omega (arith, ints, high, fits));
      place = start_of_map view.starts (number_of_item indices d.dims) (pos start +ℤ offset_of indices d.dims)
          (ap (λ (ps : List ℤ). slice_get ps (number_of_item indices d.dims)) (sym stands.starts) ∙ found);
    }

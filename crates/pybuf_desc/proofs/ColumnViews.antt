-- The items of a view in column order are the places of its descriptor in column order.
use Rattle.std.proofs.Common.{◌≡◌, ℕ, zero, suc, ◌+◌, ◌*◌, ◌<◌, ◌≤◌, ℤ, pos, ◌+ℤ◌, ◌*ℤ◌, nat_abs, eqb, Bool, true, ◌||◌, ◌==◌, List, [], ◌∷◌, ◌++◌, length, get_or, map, flat_map, refl, ap, ap₂, sym, ◌∙◌, subst, arith, IsTrue, ◌↔◌, Some, slice_get}
use Rattle.std.specs.List.{range_with_len, AllByRecursion}
use Rattle.std.specs.Prelude.{bytes_eq}
use Rattle.std.specs.Bool.{Decides}
use Rattle.std.proofs.lemmas.Bool.{ne_eqb}
use Rattle.std.proofs.lemmas.Int.{ints}
use Rattle.std.proofs.lemmas.List.Folds.{flat_map-map}
use Rattle.std.proofs.lemmas.Simd.{map-map}
use Rattle.std.proofs.lemmas.Slice.Eq.{bytes_eq-Decides}
use Rattle.pybuf_lemmas.proofs.Lists.{flat_map_same, map_of_flat_map, map_same, sizes_of_naturals}
use Rattle.pybuf_lemmas.proofs.Integers.{last_terms_swap}
use Rattle.pybuf_desc.specs.Layouts.{Layout, product}
use Rattle.pybuf_desc.specs.Contiguous.{starts_from}
use Rattle.pybuf_desc.specs.Descriptor.{Descriptor, shape_of, strides_of}
use Rattle.pybuf_desc.specs.Places.{places, Stands}
use Rattle.pybuf_desc.specs.RowMajor.{IsContiguous}
use Rattle.pybuf_desc.specs.Positions.{AreIndices, offset_of, number_of_item}
use Rattle.pybuf_desc.specs.ColumnOrder.{number_at, start_at, column_index_lists, column_starts, is_f_contiguous_layout}
use Rattle.pybuf_desc.specs.ColumnMajor.{column_places, AreColumnMajorStrides, AreColumnMajor, HasColumnMajorStrides}
use Rattle.pybuf_desc.proofs.Indices.{place_of_item}
use Rattle.pybuf_desc.proofs.Strides.{some_entries, no_place}
use Rattle.pybuf_desc.proofs.DescribedLayouts.{pos_of_run, first_place, same_tests, items_of}
use Rattle.pybuf_desc.proofs.ColumnRuns.{length-column_places, column_by_strides}

-- ---- lists

-- two maps agree on a list if they agree wherever a property holds, and it holds of the whole list
map_where : {X A : Type 0} (P : X → Type 0) (f g : X → A) (xs : List X) → AllByRecursion P xs → ((x : X) → P x → f x ≡ g x) → map f xs ≡ map g xs
map_where P f g [] all e = refl
map_where P f g (x ∷ xs) all e = ap₂ (λ y ys. y ∷ ys) (e x all.0) (map_where P f g xs all.1 e)

pub all-append : {A : Type 0} (P : A → Type 0) (xs ys : List A) → AllByRecursion P xs → AllByRecursion P ys → AllByRecursion P (xs ++ ys)
all-append P [] ys h g = g
all-append P (x ∷ xs) ys h g = (h.0, all-append P xs ys h.1 g)

all_of_each : {X A : Type 0} (P : X → Type 0) (Q : A → Type 0) (g : X → List A) (xs : List X) → ((x : X) → P x → AllByRecursion Q (g x)) → AllByRecursion P xs → AllByRecursion Q (flat_map g xs)
all_of_each P Q g [] each all = tt
all_of_each P Q g (x ∷ xs) each all = all-append Q (g x) (flat_map g xs) (each x all.0) (all_of_each P Q g xs each all.1)

-- ---- the indices of a shape in column order

first_index : (dim : ℕ × ℤ × ℤ) (dims : List (ℕ × ℤ × ℤ)) (indices : List ℕ) (a n : ℕ) → a + n ≤ dim.0 → AreIndices indices dims
    → AllByRecursion (λ all. AreIndices all (dim ∷ dims)) (map (λ index. index ∷ indices) (range_with_len a n))
first_index dim dims indices a zero fits h = tt
first_index dim dims indices a (suc n) fits h = ((omega (arith, fits), h), first_index dim dims indices (a + 1) n (omega (arith, fits)) h)

pub column_indices : (dims : List (ℕ × ℤ × ℤ)) → AllByRecursion (λ indices. AreIndices indices dims) (column_index_lists (shape_of dims))
column_indices [] = (tt, tt)
column_indices (dim ∷ dims) =
    all_of_each (λ indices. AreIndices indices dims) (λ indices. AreIndices indices (dim ∷ dims)) (λ (indices : List ℕ). map (λ index. index ∷ indices) (range_with_len 0 dim.0)) (column_index_lists (shape_of dims))
    (λ indices h. first_index dim dims indices 0 dim.0 (omega arith) h) (column_indices dims)

-- the places in column order are the places at the indices in column order
pub column_places_by_indices : (dims : List (ℕ × ℤ × ℤ)) (p : ℤ) → column_places dims p ≡ map (λ indices. p +ℤ offset_of indices dims) (column_index_lists (shape_of dims))
column_places_by_indices [] p = ap (λ (q : ℤ). q ∷ []) (let e : p ≡ p +ℤ pos 0 = omega (arith, ints) in e)
column_places_by_indices (dim ∷ dims) p =
    ap (flat_map (λ q. map (λ index. q +ℤ pos index *ℤ dim.1) (range_with_len 0 dim.0))) (column_places_by_indices dims p)
    ∙ flat_map-map (λ q. map (λ index. q +ℤ pos index *ℤ dim.1) (range_with_len 0 dim.0)) (λ indices. p +ℤ offset_of indices dims) (column_index_lists (shape_of dims))
    ∙ flat_map_same (λ indices. map (λ index. p +ℤ offset_of indices dims +ℤ pos index *ℤ dim.1) (range_with_len 0 dim.0)) (λ indices. map (λ all. p +ℤ offset_of all (dim ∷ dims)) (map (λ index. index ∷ indices) (range_with_len 0 dim.0))) (column_index_lists (shape_of dims))
    (λ indices. map_same (λ index. p +ℤ offset_of indices dims +ℤ pos index *ℤ dim.1) (λ index. p +ℤ offset_of (index ∷ indices) (dim ∷ dims)) (range_with_len 0 dim.0) (λ index. last_terms_swap p (offset_of indices dims) (pos index *ℤ dim.1))
    ∙ sym (map-map (λ all. p +ℤ offset_of all (dim ∷ dims)) (λ index. index ∷ indices) (range_with_len 0 dim.0)))
    ∙ sym (map_of_flat_map (λ all. p +ℤ offset_of all (dim ∷ dims)) (λ (indices : List ℕ). map (λ index. index ∷ indices) (range_with_len 0 dim.0)) (column_index_lists (shape_of dims)))

-- ---- the items of a view

pub number_is : (indices : List ℕ) (dims : List (ℕ × ℤ × ℤ)) → number_of_item indices dims ≡ number_at (shape_of dims) indices
number_is [] [] = refl
number_is [] (dim ∷ dims) = refl
number_is (index ∷ indices) [] = refl
number_is (index ∷ indices) (dim ∷ dims) = ap (λ (n : ℕ). index * product (shape_of dims) + n) (number_is indices dims)

entry_of_map : (xs : List ℕ) (k : ℕ) (q : ℤ) → slice_get (map (λ x. pos x) xs) k ≡ Some q → q ≡ pos (get_or xs k 0)
entry_of_map [] k q found = absurd (cc)
entry_of_map (x ∷ xs) zero q found = let same : pos x ≡ q = cc in sym same
entry_of_map (x ∷ xs) (suc k) q found = entry_of_map xs k q found

item_is : (d : Descriptor) (start : ℕ) (view : Layout) (indices : List ℕ) → Stands d start view → AreIndices indices d.dims → pos start +ℤ offset_of indices d.dims ≡ pos (start_at view indices)
item_is d start view indices stands h =
    entry_of_map view.starts (number_of_item indices d.dims) (pos start +ℤ offset_of indices d.dims)
    (ap (λ (ps : List ℤ). slice_get ps (number_of_item indices d.dims)) (sym stands.starts) ∙ place_of_item indices d.dims (pos start) h)
    ∙ ap (λ (k : ℕ). pos (get_or view.starts k 0)) (number_is indices d.dims ∙ ap (λ (shape : List ℕ). number_at shape indices) stands.shape)

pub columns_of_view : (d : Descriptor) (start : ℕ) (view : Layout) → Stands d start view → column_places d.dims (pos start) ≡ map (λ x. pos x) (column_starts view)
columns_of_view d start view stands =
    column_places_by_indices d.dims (pos start)
    ∙ map_where (λ indices. AreIndices indices d.dims) (λ indices. pos start +ℤ offset_of indices d.dims) (λ indices. pos (start_at view indices)) (column_index_lists (shape_of d.dims)) (column_indices d.dims) (λ indices h. item_is d start view indices stands h)
    ∙ sym (map-map (λ x. pos x) (λ indices. start_at view indices) (column_index_lists (shape_of d.dims)))
    ∙ ap (λ (shape : List ℕ). map (λ x. pos x) (map (λ indices. start_at view indices) (column_index_lists shape))) stands.shape

-- ---- without a gap

same_columns : (size s n : ℕ) (columns : List ℕ) (start : ℤ) (ps : List ℤ) → start ≡ pos s → ps ≡ map (λ x. pos x) columns → length ps ≡ n
    → (IsContiguous size start ps) ↔ (columns ≡ map (λ k. s + k * size) (range_with_len 0 n))
same_columns size s n columns start ps from same count =
    let run : List ℕ = map (λ k. s + k * size) (range_with_len 0 n) in
    let each : map (λ k. start +ℤ pos (k * size)) (range_with_len 0 (length ps)) ≡ map (λ x. pos x) run =
    ap (λ (m : ℕ). map (λ k. start +ℤ pos (k * size)) (range_with_len 0 m)) count ∙ ap (λ (p : ℤ). map (λ k. p +ℤ pos (k * size)) (range_with_len 0 n)) from ∙ pos_of_run s size (range_with_len 0 n) in (
      (λ flat. sym (sizes_of_naturals columns) ∙ ap (map nat_abs) (sym same ∙ flat ∙ each) ∙ sizes_of_naturals run),
      (λ flat. same ∙ ap (map (λ x. pos x)) flat ∙ sym each),
    )

-- what `is_f_contiguous_layout` says of a view with these starts
abbrev told_of : List ℕ → ℕ → List ℕ → Bool
told_of starts size columns = length starts == 0 || bytes_eq columns (starts_from starts size (length starts))

some_told : (s : ℕ) (starts : List ℕ) (told : Bool) → (eqb (length (s ∷ starts)) 0 || told) ≡ told
some_told s starts told = ap (λ (none : Bool). none || told) (ne_eqb (length (s ∷ starts)) 0 (λ e. omega (arith, e)))

told_by_columns : (size : ℕ) (starts columns : List ℕ) (start : ℤ) (rows ps : List ℤ) → rows ≡ map (λ x. pos x) starts → (0 < length rows → get_or rows 0 (pos 0) ≡ start)
    → ps ≡ map (λ x. pos x) columns → length ps ≡ length starts → (IsContiguous size start ps) ↔ (told_of starts size columns ≡ true)
told_by_columns size [] columns start rows ps at first same count = (λ _. refl, λ _. no_place size start ps count)
told_by_columns size (s ∷ starts) columns start rows ps at first same count =
    let some : 0 < length rows = rw at (omega arith) in
    let from : start ≡ pos s = sym (first some) ∙ ap (λ (qs : List ℤ). get_or qs 0 (pos 0)) at in
    let run : List ℕ = starts_from (s ∷ starts) size (length (s ∷ starts)) in
    let both = same_columns size s (length (s ∷ starts)) columns start ps from same count in
    let test : Decides (bytes_eq columns run) (columns ≡ run) = bytes_eq-Decides columns run in
    (λ flat. some_told s starts (bytes_eq columns run) ∙ test.1 (both.0 flat), λ told. both.1 (test.0 (sym (some_told s starts (bytes_eq columns run)) ∙ told)))

-- the places in column order lie without a gap exactly if the items of the view do
pub columns_alike : (d : Descriptor) (start : ℕ) (view : Layout) → Stands d start view → (IsContiguous d.itemsize (pos start) (column_places d.dims (pos start))) ↔ (is_f_contiguous_layout view ≡ true)
columns_alike d start view stands =
    subst (λ (size : ℕ). (IsContiguous d.itemsize (pos start) (column_places d.dims (pos start))) ↔ (told_of view.starts size (column_starts view) ≡ true)) stands.itemsize
    (told_by_columns d.itemsize view.starts (column_starts view) (pos start) (places d.dims (pos start)) (column_places d.dims (pos start)) stands.starts (first_place d (pos start))
    (columns_of_view d start view stands) (length-column_places d.dims (pos start) ∙ sym (items_of d start view stands)))

pub told_by_column_places : (d : Descriptor) (start : ℕ) (view : Layout) (found : Bool) → Stands d start view → IsTrue found ↔ IsContiguous d.itemsize (pos start) (column_places d.dims (pos start)) → found ≡ is_f_contiguous_layout view
told_by_column_places d start view found stands tells =
    let both = columns_alike d start view stands in
    same_tests found (is_f_contiguous_layout view) (λ yes. both.0 (tells.0 yes)) (λ yes. tells.1 (both.1 yes))

-- ---- by strides

to_columns : (size : ℕ) (dims : List (ℕ × ℤ × ℤ)) → AreColumnMajorStrides size dims → AreColumnMajor size (shape_of dims) (strides_of dims)
to_columns size [] fit = tt
to_columns size (dim ∷ dims) fit = (fit.0, to_columns (size * dim.0) dims fit.1)

from_columns : (size : ℕ) (dims : List (ℕ × ℤ × ℤ)) → AreColumnMajor size (shape_of dims) (strides_of dims) → AreColumnMajorStrides size dims
from_columns size [] fit = tt
from_columns size (dim ∷ dims) fit = (fit.0, from_columns (size * dim.0) dims fit.1)

column_strides_alike : (d : Descriptor) (start : ℕ) (view : Layout) → Stands d start view → (AreColumnMajorStrides d.itemsize d.dims) ↔ (HasColumnMajorStrides view)
column_strides_alike d start view stands =
    subst (λ (size : ℕ). (AreColumnMajorStrides d.itemsize d.dims) ↔ (AreColumnMajor size view.shape view.strides)) stands.itemsize
    (subst (λ (shape : List ℕ). (AreColumnMajorStrides d.itemsize d.dims) ↔ (AreColumnMajor d.itemsize shape view.strides)) stands.shape
    (subst (λ (strides : List ℤ). (AreColumnMajorStrides d.itemsize d.dims) ↔ (AreColumnMajor d.itemsize (shape_of d.dims) strides)) stands.strides
    (to_columns d.itemsize d.dims, from_columns d.itemsize d.dims)))

pub by_column_strides : (d : Descriptor) (start : ℕ) (view : Layout) → Stands d start view → 0 < length view.starts → (is_f_contiguous_layout view ≡ true) ↔ (HasColumnMajorStrides view)
by_column_strides d start view stands some =
    let entries = some_entries d.dims (subst (λ (n : ℕ). 0 < n) (items_of d start view stands) some) in
    let run = column_by_strides d.itemsize d.dims (pos start) entries in
    let alike = columns_alike d start view stands in
    let strides = column_strides_alike d start view stands in
    ((λ told. strides.0 (run.1 (alike.1 told))), (λ fit. alike.0 (run.0 (strides.1 fit))))

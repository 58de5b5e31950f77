-- The walk over the items in column order.
use Rattle.std.proofs.Common.{◌≡◌, ℕ, zero, suc, ◌+◌, ◌-◌, ◌^◌, ◌<◌, ◌≤◌, ℤ, pos, ◌+ℤ◌, nat_abs, true, List, [], ◌∷◌, ◌++◌, length, set, reverse, take, drop, replicate, map, flat_map, refl, ap, ap₂, sym, ◌∙◌, subst, arith}
use Rattle.std.specs.Prelude.{All}
use Rattle.std.specs.List.{AllByRecursion, range_with_len}
use Rattle.std.proofs.lemmas.Int.{ints}
use Rattle.std.proofs.lemmas.List.{length-reverse}
use Rattle.pybuf_lemmas.proofs.Lists.{reverse_cons}
use Rattle.pybuf_desc.specs.Layouts.{product}
use Rattle.pybuf_desc.specs.Descriptor.{Descriptor, shape_of}
use Rattle.pybuf_desc.specs.Places.{places}
use Rattle.pybuf_desc.specs.Valid.{IsInside, IsPlaced}
use Rattle.pybuf_desc.specs.Positions.{AreIndices, offset_of, number_of_item}
use Rattle.pybuf_desc.specs.Segments.{line, range_at, bytes_of, HasPlaces, rows_left}
use Rattle.pybuf_desc.specs.ColumnOrder.{column_index_lists}
use Rattle.pybuf_desc.specs.ColumnMajor.{column_places}
use Rattle.pybuf_desc.specs.ColumnSegments.{column_ranges_of, column_item_bytes, IsColumnWalk, AreColumns}
use Rattle.pybuf_desc.proofs.Moves.{dim_at}
use Rattle.pybuf_desc.proofs.Products.{AreNonzero}
use Rattle.pybuf_desc.proofs.Track.{entries_fit}
use Rattle.pybuf_desc.proofs.Strides.{drop_before}
use Rattle.pybuf_desc.proofs.Indices.{place_of_item}
use Rattle.pybuf_desc.proofs.Lines.{places-rows}
use Rattle.pybuf_desc.proofs.Rows.{first_left, first_row}
use Rattle.pybuf_desc.proofs.DescribedLayouts.{inside_at}
use Rattle.pybuf_desc.proofs.SegmentFacts.{both, inside_more, top}
use Rattle.pybuf_desc.proofs.ColumnRuns.{column_places-cons, length-column_places}
use Rattle.pybuf_desc.proofs.ColumnViews.{all-append, column_indices, column_places_by_indices}

-- ---- the dimensions, with the last one first

take_set : {X : Type 0} (xs : List X) (k : ℕ) (x : X) → k < length xs → take (suc k) (set xs k x) ≡ take k xs ++ x ∷ []
take_set [] k x h = absurd (omega (arith, h))
take_set (y ∷ ys) zero x h = refl
take_set (y ∷ ys) (suc k) x h = ap (λ zs. y ∷ zs) (take_set ys k x (omega (arith, h)))

-- one more dimension is added
pub one_more : (dims turned : List (ℕ × ℤ × ℤ)) (count k : ℕ) → 0 < k → k ≤ length dims → count < length turned → take count turned ≡ reverse (drop k dims)
    → take (count + 1) (set turned count (dim_at dims (k - 1))) ≡ reverse (drop (k - 1) dims)
one_more dims turned count k some few room e =
    ap (λ n. take n (set turned count (dim_at dims (k - 1)))) (let f : count + 1 ≡ suc count = omega arith in f)
    ∙ take_set turned count (dim_at dims (k - 1)) room
    ∙ ap (λ ds. ds ++ dim_at dims (k - 1) ∷ []) e
    ∙ sym (ap reverse (drop_before dims k some few) ∙ reverse_cons (dim_at dims (k - 1)) (drop k dims))

-- column order is the row-major order of the dimensions with the last one first
pub places_turned : (dims : List (ℕ × ℤ × ℤ)) (p : ℤ) → places (reverse dims) p ≡ column_places dims p
places_turned [] p = refl
places_turned (dim ∷ dims) p =
    ap (λ ds. places ds p) (reverse_cons dim dims) ∙ places-rows (reverse dims) dim p
    ∙ ap (flat_map (λ q. line q dim.1 dim.0)) (places_turned dims p) ∙ sym (column_places-cons dim dims p)

-- ---- inside

pub all_mapped : {X A : Type 0} (P : X → Type 0) (Q : A → Type 0) (f : X → A) (xs : List X) → AllByRecursion P xs → ((x : X) → P x → Q (f x)) → AllByRecursion Q (map f xs)
all_mapped P Q f [] all each = tt
all_mapped P Q f (x ∷ xs) all each = (each x all.0, all_mapped P Q f xs all.1 each)

pub all_turned : {X : Type 0} (P : X → Type 0) (xs : List X) → AllByRecursion P xs → AllByRecursion P (reverse xs)
all_turned P [] all = tt
all_turned P (x ∷ xs) all = subst (AllByRecursion P) (sym (reverse_cons x xs)) (all-append P (reverse xs) (x ∷ []) (all_turned P xs all.1) (all.0, tt))

pub columns_within : (d : Descriptor) (start room : ℕ) → All (IsInside d.itemsize room) (places d.dims (pos start)) → AllByRecursion (IsInside d.itemsize room) (column_places d.dims (pos start))
columns_within d start room inside =
    subst (AllByRecursion (IsInside d.itemsize room)) (sym (column_places_by_indices d.dims (pos start)))
    (all_mapped (λ indices. AreIndices indices d.dims) (IsInside d.itemsize room) (λ indices. pos start +ℤ offset_of indices d.dims) (column_index_lists (shape_of d.dims)) (column_indices d.dims)
    (λ indices h. inside_at d.itemsize room (places d.dims (pos start)) (number_of_item indices d.dims) (pos start +ℤ offset_of indices d.dims) inside (place_of_item indices d.dims (pos start) h)))

columns_inside : (d : Descriptor) (start : ℕ) → IsPlaced d start → AllByRecursion (IsInside d.itemsize top) (column_places d.dims (pos start))
columns_inside d start placed = inside_more d.itemsize placed.room (column_places d.dims (pos start)) placed.room_fits (columns_within d start placed.room placed.valid.inside)

no_size : (size : ℕ) (ps : List ℤ) → AllByRecursion (IsInside size top) ps → AllByRecursion (IsInside 0 top) ps
no_size size [] all = tt
no_size size (p ∷ ps) all = (let i = all.0 in let high = i.high in record { low = i.low; high = omega (arith, ints, high) }, no_size size ps all.1)

turned_inside : (d : Descriptor) (start : ℕ) → IsPlaced d start → AllByRecursion (IsInside d.itemsize top) (places (reverse d.dims) (pos start))
turned_inside d start placed = subst (AllByRecursion (IsInside d.itemsize top)) (sym (places_turned d.dims (pos start))) (columns_inside d start placed)

turned_placed : (d : Descriptor) (start : ℕ) → IsPlaced d start → AreNonzero d.dims → HasPlaces (reverse d.dims) (pos start)
turned_placed d start placed some =
    record {
      entries = all_turned (λ dim. (0 < dim.0) × (dim.0 < 2 ^ 63)) d.dims (both d.dims some (entries_fit d.itemsize d.dims placed.valid.some_size placed.valid.extent_fits));
      inside = no_size d.itemsize (places (reverse d.dims) (pos start)) (turned_inside d start placed);
    }

-- ---- a walk from the first item on

pub columns_of : (d : Descriptor) (start : ℕ) → IsPlaced d start → AreNonzero d.dims → AreColumns (reverse d.dims) start d.itemsize
columns_of d start placed some =
    let few = placed.valid.few_dimensions in
    let same : length (reverse d.dims) ≡ length d.dims = length-reverse d.dims in
    record { few = omega (arith, same, few); placed = turned_placed d start placed some; inside = turned_inside d start placed }

pub columns_begin : (dims : List (ℕ × ℤ × ℤ)) (count start size : ℕ) (indices : List ℕ) → indices ≡ replicate 64 0 → count ≤ 64 → AreColumns (take count dims) start size → IsColumnWalk dims count indices start true size
columns_begin dims count start size indices zeros few columns =
    record {
      few = few;
      item = λ _. first_row (take count dims) indices start zeros columns.few columns.placed;
      inside = subst (AllByRecursion (IsInside size 9223372036854775807)) (sym (first_left (take count dims) indices start zeros)) columns.inside;
    }

pub columns_walked : (dims : List (ℕ × ℤ × ℤ)) (start size : ℕ) (indices : List ℕ) → indices ≡ replicate 64 0 → map (range_at size) (rows_left dims indices start true) ≡ map (range_at size) (places dims (pos start))
columns_walked dims start size indices zeros = ap (map (range_at size)) (first_left dims indices start zeros)

no_place_left : (ps : List ℤ) → length ps ≡ 0 → [] ≡ ps
no_place_left [] e = refl
no_place_left (p ∷ ps) e = absurd (omega (arith, e))

pub columns_none : (d : Descriptor) (start : ℤ) → product (shape_of d.dims) ≡ 0 → [] ≡ column_ranges_of d start
columns_none d start none = ap (map (range_at d.itemsize)) (no_place_left (column_places d.dims start) (length-column_places d.dims start ∙ none))

-- ---- the bytes

range_bytes : (size : ℕ) (p : ℤ) → bytes_of (range_at size p) ≡ range_with_len (nat_abs p) size
range_bytes size p = ap (λ n. range_with_len (nat_abs p) n) (let e : nat_abs p + size - nat_abs p ≡ size = omega arith in e)

each_bytes : (size : ℕ) (ps : List ℤ) → flat_map bytes_of (map (range_at size) ps) ≡ flat_map (λ place. range_with_len (nat_abs place) size) ps
each_bytes size [] = refl
each_bytes size (p ∷ ps) = ap₂ (λ (xs ys : List ℕ). xs ++ ys) (range_bytes size p) (each_bytes size ps)

pub column_bytes : (d : Descriptor) (start : ℤ) → flat_map bytes_of (column_ranges_of d start) ≡ column_item_bytes d start
column_bytes d start = each_bytes d.itemsize (column_places d.dims start)

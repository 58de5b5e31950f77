-- Items without gaps as items of another size in another shape, in column order, over the same bytes.
use Rattle.std.proofs.Common.{◌≡◌, ◌≢◌, ℕ, zero, suc, ◌+◌, ◌*◌, ◌^◌, ◌<◌, ◌≤◌, ℤ, pos, ◌+ℤ◌, ◌*ℤ◌, ◌≤ℤ◌, nat_abs, Bool, true, List, [], ◌∷◌, ◌++◌, length, get_or, map, drop, drop-cons, refl, ap, ap₂, sym, ◌∙◌, subst, arith, mul_comm, mul_assoc, mul-pos, append_assoc, le-mul_of_pos_right}
use Rattle.std.specs.Prelude.{All}
use Rattle.std.specs.List.{AllByRecursion, range_with_len}
use Rattle.std.proofs.lemmas.Int.{ints}
use Rattle.std.proofs.lemmas.List.Elements.{All-nil, All-cons, All-head, All-tail, All-from_recursion}
use Rattle.pybuf_lemmas.proofs.Numbers.{positive_is_nonzero}
use Rattle.pybuf_lemmas.proofs.Lists.{sizes_of_naturals, map_of_flat_map, flat_map_same}
use Rattle.pybuf_desc.specs.Facts.{positive_product}
use Rattle.pybuf_desc.specs.Layouts.{Layout, product, HasItemsOfItsShape}
use Rattle.pybuf_desc.specs.Contiguous.{starts_from}
use Rattle.pybuf_desc.specs.Descriptor.{Descriptor, shape_of, strides_of}
use Rattle.pybuf_desc.specs.Places.{places, Stands}
use Rattle.pybuf_desc.specs.Valid.{IsInside, IsValid, IsPlaceable}
use Rattle.pybuf_desc.specs.ColumnOrder.{column_starts, is_f_contiguous_layout}
use Rattle.pybuf_desc.specs.ColumnMajor.{AreColumnMajorStrides, column_major_dims, column_cast}
use Rattle.pybuf_desc.specs.ColumnCasts.{column_major_strides, column_major_starts, column_starts_from, column_cast_to}
use Rattle.pybuf_desc.proofs.Steps.{blocks_apart, places-cons}
use Rattle.pybuf_desc.proofs.Products.{AreNonzero-from_All, product-extent}
use Rattle.pybuf_desc.proofs.Runs.{run, map-run-0}
use Rattle.pybuf_desc.proofs.CastFacts.{HasNoGap, bytes_inside, len_fits}
use Rattle.pybuf_desc.proofs.ShapedCasts.{IsShapedCast, later_dims}
use Rattle.pybuf_desc.proofs.DescribedLayouts.{pos_of_run, first_place, items_of, described_shape}
use Rattle.pybuf_desc.proofs.ColumnRuns.{column_from_strides, column_without_a_gap}
use Rattle.pybuf_desc.proofs.ColumnViews.{all-append, columns_of_view, columns_alike}

-- ---- the dimensions

shape-column_major : (size : ℕ) (shape : List ℕ) → shape_of (column_major_dims size shape) ≡ shape
shape-column_major size [] = refl
shape-column_major size (n ∷ shape) = ap (λ (ns : List ℕ). n ∷ ns) (shape-column_major (size * n) shape)

strides-column_major : (size : ℕ) (shape : List ℕ) → strides_of (column_major_dims size shape) ≡ column_major_strides size shape
strides-column_major size [] = refl
strides-column_major size (n ∷ shape) = ap (λ (ts : List ℤ). pos size ∷ ts) (strides-column_major (size * n) shape)

length-column_major : (size : ℕ) (shape : List ℕ) → length (column_major_dims size shape) ≡ length shape
length-column_major size [] = refl
length-column_major size (n ∷ shape) = ap suc (length-column_major (size * n) shape)

are_column_major : (size : ℕ) (shape : List ℕ) → AreColumnMajorStrides size (column_major_dims size shape)
are_column_major size [] = tt
are_column_major size (n ∷ shape) = ((λ _. refl), are_column_major (size * n) shape)

some_dims : (size : ℕ) (shape : List ℕ) → All (λ n. 0 < n) shape → All (λ (dim : ℕ × ℤ × ℤ). 0 < dim.0) (column_major_dims size shape)
some_dims size [] some = All-nil (λ (dim : ℕ × ℤ × ℤ). 0 < dim.0)
some_dims size (n ∷ shape) some =
    All-cons (λ (dim : ℕ × ℤ × ℤ). 0 < dim.0) (n, pos size, pos 0) (column_major_dims (size * n) shape) (All-head (λ m. 0 < m) n shape some) (some_dims (size * n) shape (All-tail (λ m. 0 < m) n shape some))

some_strides : (size : ℕ) (shape : List ℕ) → 0 < size → All (λ n. 0 < n) shape → All (λ (dim : ℕ × ℤ × ℤ). dim.1 ≢ pos 0) (column_major_dims size shape)
some_strides size [] sized some = All-nil (λ (dim : ℕ × ℤ × ℤ). dim.1 ≢ pos 0)
some_strides size (n ∷ shape) sized some =
    All-cons (λ (dim : ℕ × ℤ × ℤ). dim.1 ≢ pos 0) (n, pos size, pos 0) (column_major_dims (size * n) shape) (positive_is_nonzero size sized)
    (some_strides (size * n) shape (mul-pos sized (All-head (λ m. 0 < m) n shape some)) (All-tail (λ m. 0 < m) n shape some))

no_suboffsets : (size : ℕ) (shape : List ℕ) → All (λ (dim : ℕ × ℤ × ℤ). dim.2 ≡ pos 0) (column_major_dims size shape)
no_suboffsets size [] = All-nil (λ (dim : ℕ × ℤ × ℤ). dim.2 ≡ pos 0)
no_suboffsets size (n ∷ shape) = All-cons (λ (dim : ℕ × ℤ × ℤ). dim.2 ≡ pos 0) (n, pos size, pos 0) (column_major_dims (size * n) shape) refl (no_suboffsets (size * n) shape)

-- ---- inside

-- There are so many blocks, each one step after the one before. A property holds in all of them if it holds in each
-- block that ends by `limit`.
blocks_inside : (P : ℤ → Type 0) (block : ℤ → List ℤ) (step len limit : ℕ) → ((q : ℤ) → pos 0 ≤ℤ q → (q +ℤ pos len) ≤ℤ pos limit → AllByRecursion P (block q))
    → (m : ℕ) (p : ℤ) → pos 0 ≤ℤ p → (p +ℤ pos (len + m * step)) ≤ℤ pos (limit + step) → AllByRecursion P (blocks_apart block m p (pos step))
blocks_inside P block step len limit each zero p low high = tt
blocks_inside P block step len limit each (suc m) p low high =
    let same : suc m * step ≡ step + m * step = omega arith in
    all-append P (block p) (blocks_apart block m (p +ℤ pos step) (pos step))
    (each p low (omega (arith, ints, high, same)))
    (blocks_inside P block step len limit each m (p +ℤ pos step) (omega (arith, ints, low)) (omega (arith, ints, high, same)))

column_inside : (size room step : ℕ) (shape : List ℕ) (p : ℤ) → pos 0 ≤ℤ p → (p +ℤ pos (step * product shape + size)) ≤ℤ pos (room + step) → AllByRecursion (IsInside size room) (places (column_major_dims step shape) p)
column_inside size room step [] p low high =
    let once : step * 1 ≡ step = omega arith in
    (record { low = low; high = omega (arith, ints, high, once) }, tt)
column_inside size room step (n ∷ shape) p low high =
    let assoc : step * n * product shape ≡ step * (n * product shape) = mul_assoc step n (product shape) in
    let turned : n * step ≡ step * n = mul_comm n step in
    subst (AllByRecursion (IsInside size room)) (sym (places-cons (n, pos step, pos 0) (column_major_dims (step * n) shape) p))
    (blocks_inside (IsInside size room) (places (column_major_dims (step * n) shape)) step (step * n * product shape + size) (room + step * n)
    (λ q from to. column_inside size room (step * n) shape q from to) n p low (omega (arith, ints, high, assoc, turned)))

pub valid_column : (d : Descriptor) (format : List ℕ) (size : ℕ) (shape : List ℕ) → IsPlaceable d → HasNoGap d → IsShapedCast d size shape
    → (start room : ℕ) → IsValid d start room → IsValid (column_cast d format size shape) start room
valid_column d format size shape can gapless cast start room valid =
    let dims = column_major_dims size shape in
    let some = some_dims size shape cast.some in
    let bytes : 0 < d.len = subst (λ (n : ℕ). 0 < n) cast.whole (mul-pos cast.sized (positive_product shape cast.some)) in
    let end : start + d.len ≤ room = bytes_inside d start room gapless valid bytes in
    let count : size * product (shape_of dims) ≡ d.len = ap (λ (ns : List ℕ). size * product ns) (shape-column_major size shape) ∙ cast.whole in
    let total : size * product shape ≡ d.len = cast.whole in
    record {
      some_size = cast.sized;
      size_fits = cast.fits;
      few_dimensions = subst (λ (n : ℕ). n ≤ 64) (sym (length-column_major size shape)) cast.few;
      strides = some_strides size shape cast.sized cast.some;
      suboffsets = no_suboffsets size shape;
      later_entries = later_dims dims some;
      extent_fits = subst (λ (n : ℕ). n < 2 ^ 63) (sym count ∙ ap (λ (n : ℕ). size * n) (product-extent dims (AreNonzero-from_All dims some))) (len_fits d can);
      len = count;
      inside = All-from_recursion (IsInside size room) (places dims (pos start))
          (column_inside size room size shape (pos start) (omega (arith, ints)) (omega (arith, ints, end, total)));
    }

-- ---- the view

stride_is : (p i t : ℕ) → pos p +ℤ pos i *ℤ pos t ≡ pos (p + i * t)
stride_is p i t = omega (arith, ints)

places_column_major : (size : ℕ) (shape : List ℕ) (first : ℕ) → places (column_major_dims size shape) (pos first) ≡ map (λ x. pos x) (column_major_starts size shape first)
places_column_major size [] first = refl
places_column_major size (n ∷ shape) first =
    flat_map_same (λ index. places (column_major_dims (size * n) shape) (pos first +ℤ pos index *ℤ pos size)) (λ index. map (λ x. pos x) (column_major_starts (size * n) shape (first + index * size))) (range_with_len 0 n)
    (λ index. ap (places (column_major_dims (size * n) shape)) (stride_is first index size) ∙ places_column_major (size * n) shape (first + index * size))
    ∙ sym (map_of_flat_map (λ x. pos x) (λ index. column_major_starts (size * n) shape (first + index * size)) (range_with_len 0 n))

first_start : (size : ℕ) (shape starts : List ℕ) (start : ℕ) (rows : List ℤ) → rows ≡ map (λ x. pos x) starts → (0 < length rows → get_or rows 0 (pos 0) ≡ pos start) → 0 < length starts
    → column_major_starts size shape start ≡ column_starts_from starts size shape
first_start size shape [] start rows at first some = absurd (omega (arith, some))
first_start size shape (s ∷ starts) start rows at first some =
    let some_row : 0 < length rows = rw at (omega arith) in
    let from : pos start ≡ pos s = sym (first some_row) ∙ ap (λ (qs : List ℤ). get_or qs 0 (pos 0)) at in
    ap (column_major_starts size shape) (ap nat_abs from)

some_items : (size n len : ℕ) → size * n ≡ len → 0 < len → 0 < n
some_items size zero len e some = absurd (let none : size * 0 ≡ 0 = omega arith in omega (arith, e, none, some))
some_items size (suc n) len e some = omega arith

pub stands_column : (d : Descriptor) (format : List ℕ) (size : ℕ) (shape : List ℕ) → IsPlaceable d → IsShapedCast d size shape
    → (start : ℕ) (view : Layout) → Stands d start view → Stands (column_cast d format size shape) start (column_cast_to view format size shape)
stands_column d format size shape can cast start view stands =
    let bytes : 0 < d.len = subst (λ (n : ℕ). 0 < n) cast.whole (mul-pos cast.sized (positive_product shape cast.some)) in
    let count : 0 < length view.starts = some_items d.itemsize (length view.starts) d.len (ap (λ (n : ℕ). d.itemsize * n) (items_of d start view stands) ∙ can.placed.valid.len) bytes in
    record {
      format = refl;
      itemsize = refl;
      shape = shape-column_major size shape;
      strides = strides-column_major size shape;
      readonly = stands.readonly;
      starts = places_column_major size shape start
          ∙ ap (map (λ x. pos x)) (first_start size shape view.starts start (places d.dims (pos start)) stands.starts (first_place d (pos start)) count);
    }

-- ---- laws

-- some descriptor of these items
abbrev some_column_cast : List ℕ → ℕ → List ℕ → Bool → Descriptor
some_column_cast format size shape readonly =
    record { len = 0; readonly = readonly; itemsize = size; format = format; dims = column_major_dims size shape }

abbrev made_at : List ℕ → ℕ → List ℕ → Bool → ℕ → Layout
made_at format size shape readonly first =
    record {
      format = format;
      itemsize = size;
      shape = shape;
      starts = column_major_starts size shape first;
      strides = column_major_strides size shape;
      readonly = readonly;
    }

stands_made : (format : List ℕ) (size : ℕ) (shape : List ℕ) (readonly : Bool) (first : ℕ) → Stands (some_column_cast format size shape readonly) first (made_at format size shape readonly first)
stands_made format size shape readonly first =
    record {
      format = refl;
      itemsize = refl;
      shape = shape-column_major size shape;
      strides = strides-column_major size shape;
      readonly = refl;
      starts = places_column_major size shape first;
    }

columns_made : (format : List ℕ) (size : ℕ) (shape : List ℕ) (readonly : Bool) (first : ℕ) → column_starts (made_at format size shape readonly first) ≡ map (λ k. first + k * size) (range_with_len 0 (product shape))
columns_made format size shape readonly first =
    let d : Descriptor = some_column_cast format size shape readonly in
    let made : Layout = made_at format size shape readonly first in
    let run_of : List ℕ = map (λ k. first + k * size) (range_with_len 0 (product shape)) in
    let same : map (λ x. pos x) (column_starts made) ≡ map (λ x. pos x) run_of =
    sym (columns_of_view d first made (stands_made format size shape readonly first))
    ∙ column_from_strides size (column_major_dims size shape) (are_column_major size shape) (pos first)
    ∙ ap (λ (ns : List ℕ). run size (pos first) (product ns)) (shape-column_major size shape)
    ∙ sym (map-run-0 size (product shape) (pos first))
    ∙ pos_of_run first size (range_with_len 0 (product shape)) in
    sym (sizes_of_naturals (column_starts made)) ∙ ap (map nat_abs) same ∙ sizes_of_naturals run_of

columns_from : (format : List ℕ) (size : ℕ) (shape : List ℕ) (readonly : Bool) (starts : List ℕ) → 0 < length starts
    → column_starts (record { format = format; itemsize = size; shape = shape; starts = column_starts_from starts size shape; strides = column_major_strides size shape; readonly = readonly }) ≡ starts_from starts size (product shape)
columns_from format size shape readonly [] some = absurd (omega (arith, some))
columns_from format size shape readonly (first ∷ starts) some = columns_made format size shape readonly first

pub column_order : (view : Layout) (format : List ℕ) (size : ℕ) (shape : List ℕ) → 0 < length view.starts → column_starts (column_cast_to view format size shape) ≡ starts_from view.starts size (product shape)
column_order view format size shape some = columns_from format size shape view.readonly view.starts some

told_from : (format : List ℕ) (size : ℕ) (shape : List ℕ) (readonly : Bool) (starts : List ℕ)
    → is_f_contiguous_layout (record { format = format; itemsize = size; shape = shape; starts = column_starts_from starts size shape; strides = column_major_strides size shape; readonly = readonly }) ≡ true
told_from format size shape readonly [] = refl
told_from format size shape readonly (first ∷ starts) =
    (columns_alike (some_column_cast format size shape readonly) first (made_at format size shape readonly first) (stands_made format size shape readonly first)).0
    (column_without_a_gap size (column_major_dims size shape) (pos first) (column_from_strides size (column_major_dims size shape) (are_column_major size shape) (pos first)))

pub column_casts_told : (view : Layout) (format : List ℕ) (size : ℕ) (shape : List ℕ) → is_f_contiguous_layout (column_cast_to view format size shape) ≡ true
column_casts_told view format size shape = told_from format size shape view.readonly view.starts

shape_from : (format : List ℕ) (size : ℕ) (shape : List ℕ) (readonly : Bool) (starts : List ℕ) → 0 < length starts → length (column_starts_from starts size shape) ≡ product shape
shape_from format size shape readonly [] some = absurd (omega (arith, some))
shape_from format size shape readonly (first ∷ starts) some =
    described_shape (some_column_cast format size shape readonly) first (made_at format size shape readonly first) (stands_made format size shape readonly first)

pub column_casts_counted : (view : Layout) (format : List ℕ) (size : ℕ) (shape : List ℕ) → 0 < length view.starts → HasItemsOfItsShape (column_cast_to view format size shape)
column_casts_counted view format size shape some = shape_from format size shape view.readonly view.starts some

-- ---- one more dimension

-- what a step over a shape needs, and what it gives
pub record IsColumnStep (itemsize size n i : ℕ) (more : List (ℕ × ℤ × ℤ)) (shape : List ℕ) : Type 0 where
  pub size_is : size * n * product (drop (i + 1) shape) ≡ itemsize * product shape
  pub dims_are : more ++ column_major_dims (size * n) (drop (i + 1) shape) ≡ column_major_dims itemsize shape

pub column_step : (itemsize size n i : ℕ) (shape : List ℕ) (dims more : List (ℕ × ℤ × ℤ)) → i < length shape → n ≡ get_or shape i 0
    → size * product (drop i shape) ≡ itemsize * product shape → dims ++ column_major_dims size (drop i shape) ≡ column_major_dims itemsize shape → more ≡ dims ++ (n, pos size, pos 0) ∷ []
    → IsColumnStep itemsize size n i more shape
column_step itemsize size n i shape dims more below here e so_far pushed =
    let later : List ℕ = drop (i + 1) shape in
    let next : suc i ≡ i + 1 = omega arith in
    let cut : drop i shape ≡ n ∷ later = drop-cons shape i 0 below ∙ ap₂ (λ (m : ℕ) (ms : List ℕ). m ∷ ms) (sym here) (ap (λ (k : ℕ). drop k shape) next) in
    record {
      size_is = mul_assoc size n (product later) ∙ sym (ap (λ (ns : List ℕ). size * product ns) cut) ∙ e;
      dims_are = ap (λ (ds : List (ℕ × ℤ × ℤ)). ds ++ column_major_dims (size * n) later) pushed
          ∙ append_assoc dims ((n, pos size, pos 0) ∷ []) (column_major_dims (size * n) later)
          ∙ ap (λ (ns : List ℕ). dims ++ column_major_dims size ns) (sym cut) ∙ so_far;
    }

all_drop : (i : ℕ) (shape : List ℕ) → All (λ n. 0 < n) shape → All (λ n. 0 < n) (drop i shape)
all_drop zero shape all = all
all_drop (suc i) [] all = All-nil (λ n. 0 < n)
all_drop (suc i) (n ∷ shape) all = all_drop i shape (All-tail (λ m. 0 < m) n shape all)

-- the size that a step reaches fits `isize`
pub step_fits : (itemsize size i : ℕ) (shape : List ℕ) → All (λ n. 0 < n) shape → itemsize * product shape < 2 ^ 63 → size * product (drop i shape) ≡ itemsize * product shape → size < 2 ^ 63
step_fits itemsize size i shape some fits e =
    let more : size ≤ size * product (drop i shape) = le-mul_of_pos_right size (positive_product (drop i shape) (all_drop i shape some)) in
    omega (arith, more, fits, e)

pub next_step_fits : (itemsize size i : ℕ) (shape : List ℕ) → i < length shape → All (λ n. 0 < n) shape → itemsize * product shape < 2 ^ 63 → size * product (drop i shape) ≡ itemsize * product shape → size * get_or shape i 0 < 2 ^ 63
next_step_fits itemsize size i shape below some fits e =
    let next : suc i ≡ i + 1 = omega arith in
    let cut : drop i shape ≡ get_or shape i 0 ∷ drop (i + 1) shape = drop-cons shape i 0 below ∙ ap (λ (k : ℕ). get_or shape i 0 ∷ drop k shape) next in
    step_fits itemsize (size * get_or shape i 0) (i + 1) shape some fits (mul_assoc size (get_or shape i 0) (product (drop (i + 1) shape)) ∙ sym (ap (λ (ns : List ℕ). size * product ns) cut) ∙ e)

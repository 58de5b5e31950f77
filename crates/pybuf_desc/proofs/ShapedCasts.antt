-- Items without gaps as items of another size in another shape over the same bytes.
use Rattle.std.proofs.Common.{◌≡◌, ◌≢◌, ℕ, zero, suc, ◌+◌, ◌*◌, ◌/◌, ◌^◌, ◌<◌, ◌≤◌, ℤ, pos, ◌+ℤ◌, ◌≤ℤ◌, List, [], ◌∷◌, ◌++◌, length, get_or, drop, drop-cons, refl, ap, ap₂, sym, ◌∙◌, subst, arith, mul_comm, mul-pos, mul-zero, mul-div_cancel, append_assoc}
use Rattle.std.proofs.Math.Nat.{div-le_self}
use Rattle.std.specs.Prelude.{All}
use Rattle.std.specs.List.{AllByRecursion}
use Rattle.std.proofs.lemmas.Int.{ints}
use Rattle.std.proofs.lemmas.List.Elements.{All-nil, All-cons, All-head, All-tail, All-from_recursion}
use Rattle.pybuf_lemmas.proofs.Numbers.{positive_is_nonzero}
use Rattle.pybuf_desc.specs.Facts.{positive_product, length-places}
use Rattle.pybuf_desc.specs.Layouts.{Layout, product}
use Rattle.pybuf_desc.specs.Strides.{row_major_strides}
use Rattle.pybuf_desc.specs.ShapedCasts.{cast_to}
use Rattle.pybuf_desc.specs.Descriptor.{Descriptor, shape_of, strides_of}
use Rattle.pybuf_desc.specs.Places.{places, Stands}
use Rattle.pybuf_desc.specs.Valid.{IsInside, IsValid, IsPlaceable}
use Rattle.pybuf_desc.specs.RowMajor.{AreRowMajorStrides, row_major_dims, shaped_cast}
use Rattle.pybuf_desc.proofs.Products.{AreNonzero-from_All, product-extent}
use Rattle.pybuf_desc.proofs.Strides.{some_entries}
use Rattle.pybuf_desc.proofs.Runs.{run, map-run-0, first-places, places_from_strides}
use Rattle.pybuf_desc.proofs.SliceFacts.{length-map}
use Rattle.pybuf_desc.proofs.CastFacts.{HasNoGap, bytes_inside, len_fits, starts_of_cast}

-- ---- the dimensions

pub shape-row_major : (size : ℕ) (shape : List ℕ) → shape_of (row_major_dims size shape) ≡ shape
shape-row_major size [] = refl
shape-row_major size (n ∷ shape) = ap (λ (ns : List ℕ). n ∷ ns) (shape-row_major size shape)

pub strides-row_major : (size : ℕ) (shape : List ℕ) → strides_of (row_major_dims size shape) ≡ row_major_strides size shape
strides-row_major size [] = refl
strides-row_major size (n ∷ shape) = ap (λ (ts : List ℤ). pos (size * product shape) ∷ ts) (strides-row_major size shape)

pub length-row_major : (size : ℕ) (shape : List ℕ) → length (row_major_dims size shape) ≡ length shape
length-row_major size [] = refl
length-row_major size (n ∷ shape) = ap suc (length-row_major size shape)

are_row_major : (size : ℕ) (shape : List ℕ) → AreRowMajorStrides size (row_major_dims size shape)
are_row_major size [] = tt
are_row_major size (n ∷ shape) = (
  (λ _. ap (λ (ns : List ℕ). pos (size * product ns)) (sym (shape-row_major size shape))),
  are_row_major size shape,
)

some_dims : (size : ℕ) (shape : List ℕ) → All (λ n. 0 < n) shape → All (λ (dim : ℕ × ℤ × ℤ). 0 < dim.0) (row_major_dims size shape)
some_dims size [] some = All-nil (λ (dim : ℕ × ℤ × ℤ). 0 < dim.0)
some_dims size (n ∷ shape) some =
    All-cons (λ (dim : ℕ × ℤ × ℤ). 0 < dim.0) (n, pos (size * product shape), pos 0) (row_major_dims size shape) (All-head (λ m. 0 < m) n shape some) (some_dims size shape (All-tail (λ m. 0 < m) n shape some))

some_strides : (size : ℕ) (shape : List ℕ) → 0 < size → All (λ n. 0 < n) shape → All (λ (dim : ℕ × ℤ × ℤ). dim.1 ≢ pos 0) (row_major_dims size shape)
some_strides size [] sized some = All-nil (λ (dim : ℕ × ℤ × ℤ). dim.1 ≢ pos 0)
some_strides size (n ∷ shape) sized some =
    let later = All-tail (λ m. 0 < m) n shape some in
    All-cons (λ (dim : ℕ × ℤ × ℤ). dim.1 ≢ pos 0) (n, pos (size * product shape), pos 0) (row_major_dims size shape) (positive_is_nonzero (size * product shape) (mul-pos sized (positive_product shape later))) (some_strides size shape sized later)

pub no_suboffsets : (size : ℕ) (shape : List ℕ) → All (λ (dim : ℕ × ℤ × ℤ). dim.2 ≡ pos 0) (row_major_dims size shape)
no_suboffsets size [] = All-nil (λ (dim : ℕ × ℤ × ℤ). dim.2 ≡ pos 0)
no_suboffsets size (n ∷ shape) = All-cons (λ (dim : ℕ × ℤ × ℤ). dim.2 ≡ pos 0) (n, pos (size * product shape), pos 0) (row_major_dims size shape) refl (no_suboffsets size shape)

pub later_dims : (dims : List (ℕ × ℤ × ℤ)) → All (λ (dim : ℕ × ℤ × ℤ). 0 < dim.0) dims → All (λ (dim : ℕ × ℤ × ℤ). 0 < dim.0) (drop 1 dims)
later_dims [] some = some
later_dims (dim ∷ dims) some = All-tail (λ (d : ℕ × ℤ × ℤ). 0 < d.0) dim dims some

-- ---- inside

pub run_inside : (size room n : ℕ) (p : ℤ) → pos 0 ≤ℤ p → (p +ℤ pos (n * size)) ≤ℤ pos room → AllByRecursion (IsInside size room) (run size p n)
run_inside size room zero p low high = tt
run_inside size room (suc n) p low high = (
  record { low = low; high = (let more : size ≤ suc n * size = grind arith in omega (arith, ints, high, more)) },
  run_inside size room n (p +ℤ pos size) (omega (arith, ints, low)) (let same : suc n * size ≡ size + n * size = omega arith in omega (arith, ints, high, same)),
)

pub places_row_major : (size : ℕ) (shape : List ℕ) (start : ℤ) → places (row_major_dims size shape) start ≡ run size start (product shape)
places_row_major size shape start =
    places_from_strides size (row_major_dims size shape) (are_row_major size shape) start ∙ ap (λ (ns : List ℕ). run size start (product ns)) (shape-row_major size shape)

pub record IsShapedCast (d : Descriptor) (size : ℕ) (shape : List ℕ) : Type 0 where
  pub sized : 0 < size
  pub fits : size < 2 ^ 63
  pub few : length shape ≤ 64
  pub some : All (λ n. 0 < n) shape
  pub whole : size * product shape ≡ d.len

pub valid_shaped : (d : Descriptor) (format : List ℕ) (size : ℕ) (shape : List ℕ) → IsPlaceable d → HasNoGap d → IsShapedCast d size shape
    → (start room : ℕ) → IsValid d start room → IsValid (shaped_cast d format size shape) start room
valid_shaped d format size shape can gapless cast start room valid =
    let dims = row_major_dims size shape in
    let some = some_dims size shape cast.some in
    let bytes : 0 < d.len = subst (λ (n : ℕ). 0 < n) cast.whole (mul-pos cast.sized (positive_product shape cast.some)) in
    let end : start + d.len ≤ room = bytes_inside d start room gapless valid bytes in
    let count : size * product (shape_of dims) ≡ d.len = ap (λ (ns : List ℕ). size * product ns) (shape-row_major size shape) ∙ cast.whole in
    let total : product shape * size ≡ d.len = mul_comm (product shape) size ∙ cast.whole in
    record {
      some_size = cast.sized;
      size_fits = cast.fits;
      few_dimensions = subst (λ (n : ℕ). n ≤ 64) (sym (length-row_major size shape)) cast.few;
      strides = some_strides size shape cast.sized cast.some;
      suboffsets = no_suboffsets size shape;
      later_entries = later_dims dims some;
      extent_fits = subst (λ (n : ℕ). n < 2 ^ 63) (sym count ∙ ap (λ (n : ℕ). size * n) (product-extent dims (AreNonzero-from_All dims some))) (len_fits d can);
      len = count;
      inside = All-from_recursion (IsInside size room) (places dims (pos start))
          (subst (AllByRecursion (IsInside size room)) (sym (places_row_major size shape (pos start)))
          (run_inside size room (product shape) (pos start) (omega (arith, ints)) (omega (arith, ints, end, total))));
    }

-- ---- the view

none_counted : (size count len : ℕ) → 0 < size → size * count ≡ len → len ≡ 0 → count ≡ 0
none_counted size zero len sized e none = refl
none_counted size (suc count) len sized e none = absurd (let more : 0 < size * suc count = mul-pos sized (let some : 0 < suc count = omega arith in some) in omega (arith, more, e, none))

pub stands_shaped : (d : Descriptor) (format : List ℕ) (size : ℕ) (shape : List ℕ) → IsPlaceable d → IsShapedCast d size shape
    → (start : ℕ) (view : Layout) → Stands d start view → Stands (shaped_cast d format size shape) start (cast_to view format size shape)
stands_shaped d format size shape can cast start view stands =
    let items : length view.starts ≡ product (shape_of d.dims) = sym (length-map view.starts) ∙ ap (λ (xs : List ℤ). length xs) (sym stands.starts) ∙ length-places d.dims (pos start) in
    let bytes : d.len ≡ d.itemsize * length view.starts = sym can.placed.valid.len ∙ ap (λ (n : ℕ). d.itemsize * n) (sym items) in
    record {
      format = refl;
      itemsize = refl;
      shape = shape-row_major size shape;
      strides = strides-row_major size shape;
      readonly = stands.readonly;
      starts = places_row_major size shape (pos start) ∙ sym (map-run-0 size (product shape) (pos start))
          ∙ starts_of_cast size (product shape) start (places d.dims (pos start)) view.starts stands.starts
          (λ some. first-places d.dims (pos start) (pos 0) (some_entries d.dims (subst (λ n. 0 < n) items some)))
          (λ none. none_counted size (product shape) d.len cast.sized cast.whole (bytes ∙ ap (λ (n : ℕ). d.itemsize * n) none ∙ mul-zero d.itemsize));
    }

-- ---- one more dimension

pub next_size : (itemsize n rest size : ℕ) → size ≡ itemsize * (n * rest) → 0 < n → size / n ≡ itemsize * rest
next_size itemsize n rest size e some =
    ap (λ (k : ℕ). k / n) (e ∙ (let same : itemsize * (n * rest) ≡ n * (itemsize * rest) = omega arith in same) ∙ mul_comm n (itemsize * rest)) ∙ mul-div_cancel (itemsize * rest) some

-- what a step over a shape needs, and what it gives
pub record IsDimStep (itemsize size n i : ℕ) (dims more : List (ℕ × ℤ × ℤ)) (shape : List ℕ) : Type 0 where
  pub size_is : size / n ≡ itemsize * product (drop (i + 1) shape)
  pub size_fits : size / n < 2 ^ 63
  pub dims_are : more ≡ dims ++ (n, pos (size / n), pos 0) ∷ [] → more ++ row_major_dims itemsize (drop (i + 1) shape) ≡ row_major_dims itemsize shape

pub dim_step : (itemsize size n i : ℕ) (shape : List ℕ) (dims more : List (ℕ × ℤ × ℤ)) → i < length shape → n ≡ get_or shape i 0 → All (λ m. 0 < m) shape
    → size ≡ itemsize * product (drop i shape) → size < 2 ^ 63 → dims ++ row_major_dims itemsize (drop i shape) ≡ row_major_dims itemsize shape
    → IsDimStep itemsize size n i dims more shape
dim_step itemsize size n i shape dims more below here some e fits so_far =
    let later : List ℕ = drop (i + 1) shape in
    let next : suc i ≡ i + 1 = omega arith in
    let cut : drop i shape ≡ n ∷ later = drop-cons shape i 0 below ∙ ap₂ (λ (m : ℕ) (ms : List ℕ). m ∷ ms) (sym here) (ap (λ (k : ℕ). drop k shape) next) in
    let entry : 0 < n = subst (λ (m : ℕ). 0 < m) (sym here) (some i 0 below) in
    let less : size / n ≤ size = div-le_self size n in
    let size_is : size / n ≡ itemsize * product later = next_size itemsize n (product later) size (e ∙ ap (λ (ns : List ℕ). itemsize * product ns) cut) entry in
    record {
      size_is = size_is;
      size_fits = omega (arith, less, fits);
      dims_are = λ pushed.
          ap (λ (ds : List (ℕ × ℤ × ℤ)). ds ++ row_major_dims itemsize later) pushed
          ∙ append_assoc dims ((n, pos (size / n), pos 0) ∷ []) (row_major_dims itemsize later)
          ∙ ap (λ (k : ℕ). dims ++ (n, pos k, pos 0) ∷ row_major_dims itemsize later) size_is
          ∙ ap (λ (ns : List ℕ). dims ++ row_major_dims itemsize ns) (sym cut) ∙ so_far;
    }

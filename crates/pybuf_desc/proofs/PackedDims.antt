-- Items without gaps from place 0 on, in the shape of a descriptor.
use Rattle.std.proofs.Common.{◌≡◌, ◌≢◌, ℕ, zero, suc, ◌+◌, ◌*◌, ◌/◌, ◌^◌, ◌<◌, ◌≤◌, ℤ, pos, List, [], ◌∷◌, ◌++◌, length, get_or, map, drop, drop-cons, refl, ap, ap₂, sym, ◌∙◌, subst, arith, mul_comm, mul-pos, append_assoc}
use Rattle.std.proofs.Math.Nat.{div-le_self}
use Rattle.std.specs.Prelude.{All}
use Rattle.std.specs.List.{AllByRecursion, range_with_len}
use Rattle.std.proofs.lemmas.Int.{ints}
use Rattle.std.proofs.lemmas.List.Elements.{All-nil, All-cons, All-head, All-tail, All-from_recursion}
use Rattle.pybuf_lemmas.proofs.Numbers.{positive_is_nonzero}
use Rattle.pybuf_desc.specs.Facts.{as_many, positive_product}
use Rattle.pybuf_desc.specs.Layouts.{Layout, product}
use Rattle.pybuf_desc.specs.Descriptor.{Descriptor, shape_of}
use Rattle.pybuf_desc.specs.Places.{places, Stands}
use Rattle.pybuf_desc.specs.Valid.{IsInside, IsValid, IsPlaceable, nonzero_entries}
use Rattle.pybuf_desc.specs.RowMajor.{row_major_dims}
use Rattle.pybuf_desc.specs.Strides.{row_major_strides}
use Rattle.pybuf_desc.specs.Packed.{row_major_of}
use Rattle.pybuf_desc.specs.PackedDescriptor.{row_major_descriptor}
use Rattle.pybuf_desc.proofs.Products.{extent_of, extent_skips, extent_grows, AreNonzero-from_All, product-extent}
use Rattle.pybuf_desc.proofs.Runs.{map-run-0}
use Rattle.pybuf_desc.proofs.Flat.{map-pos}
use Rattle.pybuf_desc.proofs.ShapedCasts.{shape-row_major, strides-row_major, length-row_major, no_suboffsets, places_row_major, run_inside, next_size}

-- ---- the later entries

all_drop : (P : ℕ × ℤ × ℤ → Type 0) (i : ℕ) (dims : List (ℕ × ℤ × ℤ)) → All P dims → All P (drop i dims)
all_drop P zero dims all = all
all_drop P (suc i) [] all = All-nil P
all_drop P (suc i) (dim ∷ dims) all = all_drop P i dims (All-tail P dim dims all)

later_from : (i : ℕ) (dims : List (ℕ × ℤ × ℤ)) → All (λ (dim : ℕ × ℤ × ℤ). 0 < dim.0) (drop 1 dims) → All (λ (dim : ℕ × ℤ × ℤ). 0 < dim.0) (drop (i + 1) dims)
later_from i [] later = subst (λ (k : ℕ). All (λ (dim : ℕ × ℤ × ℤ). 0 < dim.0) (drop k [])) (let e : suc i ≡ i + 1 = omega arith in e) (All-nil (λ (dim : ℕ × ℤ × ℤ). 0 < dim.0))
later_from i (dim ∷ dims) later =
    subst (λ (k : ℕ). All (λ (d : ℕ × ℤ × ℤ). 0 < d.0) (drop k (dim ∷ dims))) (let e : suc i ≡ i + 1 = omega arith in e) (all_drop (λ (d : ℕ × ℤ × ℤ). 0 < d.0) i dims later)

-- ---- one more dimension

-- what a step over the dimensions needs, and what it gives
pub record IsPackedStep (itemsize next n i : ℕ) (dims made more : List (ℕ × ℤ × ℤ)) : Type 0 where
  pub size_is : next ≡ itemsize * extent_of (drop (i + 1) dims)
  pub size_fits : next < 2 ^ 63
  pub dims_are : more ≡ made ++ (n, pos next, pos 0) ∷ [] → more ++ row_major_dims itemsize (shape_of (drop (i + 1) dims)) ≡ row_major_dims itemsize (shape_of dims)

next_is : (itemsize size next i n : ℕ) (dims : List (ℕ × ℤ × ℤ)) → i < length dims → n ≡ (get_or dims i (0, pos 0, pos 0)).0 → size ≡ itemsize * extent_of (drop i dims)
    → (n ≡ 0 → next ≡ size) → (0 < n → next ≡ size / n) → (next ≡ itemsize * extent_of (drop (i + 1) dims)) × (next ≤ size)
next_is itemsize size next i zero dims below here e none some = (
  none refl ∙ e ∙ sym (extent_skips itemsize i dims below (sym here)),
  (let same = none refl in omega (arith, same)),
)
next_is itemsize size next i (suc n) dims below here e none some =
    let entry : 0 < suc n = omega arith in
    let grown : itemsize * (suc n) * extent_of (drop (i + 1) dims) ≡ size = ap (λ (m : ℕ). itemsize * m * extent_of (drop (i + 1) dims)) here ∙ extent_grows itemsize i dims below (λ zero_there. let wrong : suc n ≡ 0 = here ∙ zero_there in omega (arith, wrong)) ∙ sym e in
    let same : size ≡ itemsize * (suc n * extent_of (drop (i + 1) dims)) = sym grown ∙ (let z : itemsize * (suc n) * extent_of (drop (i + 1) dims) ≡ itemsize * (suc n * extent_of (drop (i + 1) dims)) = omega arith in z) in (
      some entry ∙ next_size itemsize (suc n) (extent_of (drop (i + 1) dims)) size same entry,
      (let told = some entry in let less : size / suc n ≤ size = div-le_self size (suc n) in omega (arith, told, less)),
    )

pub packed_step : (itemsize size next n i : ℕ) (dims made more : List (ℕ × ℤ × ℤ)) → i < length dims → n ≡ (get_or dims i (0, pos 0, pos 0)).0 → All (λ (dim : ℕ × ℤ × ℤ). 0 < dim.0) (drop 1 dims)
    → (n ≡ 0 → next ≡ size) → (0 < n → next ≡ size / n)
    → size ≡ itemsize * extent_of (drop i dims) → size < 2 ^ 63 → made ++ row_major_dims itemsize (shape_of (drop i dims)) ≡ row_major_dims itemsize (shape_of dims)
    → IsPackedStep itemsize next n i dims made more
packed_step itemsize size next n i dims made more below here later none some e fits so_far =
    let rest : List (ℕ × ℤ × ℤ) = drop (i + 1) dims in
    let up : suc i ≡ i + 1 = omega arith in
    let cut : shape_of (drop i dims) ≡ n ∷ shape_of rest =
    ap shape_of (drop-cons dims i (0, pos 0, pos 0) below ∙ ap (λ (k : ℕ). get_or dims i (0, pos 0, pos 0) ∷ drop k dims) up) ∙ ap (λ (m : ℕ). m ∷ shape_of rest) (sym here) in
    let size_is = next_is itemsize size next i n dims below here e none some in
    let counted : itemsize * product (shape_of rest) ≡ next = ap (λ (m : ℕ). itemsize * m) (product-extent rest (AreNonzero-from_All rest (later_from i dims later))) ∙ sym size_is.0 in
    let less : next ≤ size = size_is.1 in
    record {
      size_is = size_is.0;
      size_fits = omega (arith, less, fits);
      dims_are = λ pushed.
          ap (λ (ds : List (ℕ × ℤ × ℤ)). ds ++ row_major_dims itemsize (shape_of rest)) pushed
          ∙ append_assoc made ((n, pos next, pos 0) ∷ []) (row_major_dims itemsize (shape_of rest))
          ∙ ap (λ (k : ℕ). made ++ (n, pos k, pos 0) ∷ row_major_dims itemsize (shape_of rest)) (sym counted)
          ∙ ap (λ (ns : List ℕ). made ++ row_major_dims itemsize ns) (sym cut) ∙ so_far;
    }

-- ---- validity

same_entries : (size : ℕ) (dims : List (ℕ × ℤ × ℤ)) → All (λ (dim : ℕ × ℤ × ℤ). 0 < dim.0) dims → All (λ (dim : ℕ × ℤ × ℤ). 0 < dim.0) (row_major_dims size (shape_of dims))
same_entries size [] all = All-nil (λ (dim : ℕ × ℤ × ℤ). 0 < dim.0)
same_entries size (dim ∷ dims) all =
    All-cons (λ (d : ℕ × ℤ × ℤ). 0 < d.0) (dim.0, pos (size * product (shape_of dims)), pos 0) (row_major_dims size (shape_of dims)) (All-head (λ (d : ℕ × ℤ × ℤ). 0 < d.0) dim dims all)
    (same_entries size dims (All-tail (λ (d : ℕ × ℤ × ℤ). 0 < d.0) dim dims all))

drop-row_major : (size : ℕ) (dims : List (ℕ × ℤ × ℤ)) → All (λ (dim : ℕ × ℤ × ℤ). 0 < dim.0) (drop 1 dims) → All (λ (dim : ℕ × ℤ × ℤ). 0 < dim.0) (drop 1 (row_major_dims size (shape_of dims)))
drop-row_major size [] later = later
drop-row_major size (dim ∷ dims) later = same_entries size dims later

entries_above : (dims : List (ℕ × ℤ × ℤ)) → All (λ (dim : ℕ × ℤ × ℤ). 0 < dim.0) dims → All (λ n. 0 < n) (shape_of dims)
entries_above [] all = All-nil (λ n. 0 < n)
entries_above (dim ∷ dims) all = All-cons (λ n. 0 < n) dim.0 (shape_of dims) (All-head (λ (d : ℕ × ℤ × ℤ). 0 < d.0) dim dims all) (entries_above dims (All-tail (λ (d : ℕ × ℤ × ℤ). 0 < d.0) dim dims all))

some_strides_of : (size : ℕ) (dims : List (ℕ × ℤ × ℤ)) → 0 < size → All (λ (dim : ℕ × ℤ × ℤ). 0 < dim.0) (drop 1 dims) → All (λ (dim : ℕ × ℤ × ℤ). dim.1 ≢ pos 0) (row_major_dims size (shape_of dims))
some_strides_of size [] sized later = All-nil (λ (dim : ℕ × ℤ × ℤ). dim.1 ≢ pos 0)
some_strides_of size (dim ∷ dims) sized later =
    All-cons (λ (d : ℕ × ℤ × ℤ). d.1 ≢ pos 0) (dim.0, pos (size * product (shape_of dims)), pos 0) (row_major_dims size (shape_of dims))
    (positive_is_nonzero (size * product (shape_of dims)) (mul-pos sized (positive_product (shape_of dims) (entries_above dims later))))
    (some_strides_of size dims sized (all_drop (λ (d : ℕ × ℤ × ℤ). 0 < d.0) 1 dims later))

pub valid_row_major : (d : Descriptor) → IsPlaceable d → IsValid (row_major_descriptor d) 0 d.len
valid_row_major d can =
    let size = d.itemsize in
    let shape = shape_of d.dims in
    let valid = can.placed.valid in
    let whole : product shape * size ≡ d.len = mul_comm (product shape) size ∙ valid.len in
    let entries : shape_of (row_major_dims size shape) ≡ shape = shape-row_major size shape in
    record {
      some_size = valid.some_size;
      size_fits = valid.size_fits;
      few_dimensions = subst (λ (n : ℕ). n ≤ 64) (sym (length-row_major size shape ∙ as_many d.dims)) valid.few_dimensions;
      strides = some_strides_of size d.dims valid.some_size valid.later_entries;
      suboffsets = no_suboffsets size shape;
      later_entries = drop-row_major size d.dims valid.later_entries;
      extent_fits = subst (λ (ns : List ℕ). size * product (nonzero_entries ns) < 2 ^ 63) (sym entries) valid.extent_fits;
      len = ap (λ (ns : List ℕ). size * product ns) entries ∙ valid.len;
      inside = All-from_recursion (IsInside size d.len) (places (row_major_dims size shape) (pos 0))
          (subst (AllByRecursion (IsInside size d.len)) (sym (places_row_major size shape (pos 0)))
          (run_inside size d.len (product shape) (pos 0) (omega (arith, ints)) (omega (arith, ints, whole))));
    }

pub stands_row_major : (d : Descriptor) (start : ℕ) (view : Layout) → Stands d start view → Stands (row_major_descriptor d) 0 (row_major_of view)
stands_row_major d start view stands =
    let at : (size : ℕ) (shape : List ℕ) → places (row_major_dims size shape) (pos 0) ≡ map pos (map (λ k. k * size) (range_with_len 0 (product shape))) =
    λ size shape. places_row_major size shape (pos 0) ∙ sym (map-run-0 size (product shape) (pos 0)) ∙ map-pos size (product shape) 0 in
    record {
      format = stands.format;
      itemsize = stands.itemsize;
      shape = shape-row_major d.itemsize (shape_of d.dims) ∙ stands.shape;
      strides = strides-row_major d.itemsize (shape_of d.dims) ∙ ap₂ (λ (size : ℕ) (shape : List ℕ). row_major_strides size shape) stands.itemsize stands.shape;
      readonly = stands.readonly;
      starts = at d.itemsize (shape_of d.dims) ∙ ap₂ (λ (size : ℕ) (shape : List ℕ). map pos (map (λ k. k * size) (range_with_len 0 (product shape)))) stands.itemsize stands.shape;
    }

-- Items without gaps as items of another size over the same bytes.
use Rattle.std.proofs.Common.{◌≡◌, ℕ, zero, suc, ◌+◌, ◌*◌, ◌/◌, ◌%◌, ◌^◌, ◌<◌, ◌≤◌, ℤ, pos, ◌+ℤ◌, ◌≤ℤ◌, List, [], ◌∷◌, length, get_or, map, refl, ap, ap₂, sym, ◌∙◌, subst, arith, mul_comm, mul-zero, zero-mul, le_refl, mul-le-mul_left, lt_of_le_of_lt}
use Rattle.std.proofs.Math.Nat.{zero-div}
use Rattle.std.proofs.lemmas.Int.{ints}
use Rattle.std.specs.List.{AllByRecursion, range_with_len}
use Rattle.std.proofs.lemmas.List.Elements.{recursion_from_All}
use Rattle.pybuf_desc.specs.Facts.{length-places}
use Rattle.pybuf_desc.specs.Layouts.{Layout, product}
use Rattle.pybuf_desc.specs.Descriptor.{Descriptor, flat_descriptor, shape_of}
use Rattle.pybuf_desc.specs.Places.{places, Stands}
use Rattle.pybuf_desc.specs.Valid.{IsInside, IsValid, IsPlaceable}
use Rattle.pybuf_desc.specs.RowMajor.{IsContiguous}
use Rattle.pybuf_desc.specs.Contiguous.{starts_from}
use Rattle.pybuf_desc.specs.Casts.{cast_of, cast_count}
use Rattle.pybuf_desc.proofs.Products.{extent_of}
use Rattle.pybuf_desc.proofs.Strides.{some_entries}
use Rattle.pybuf_desc.proofs.Runs.{run, first-places, run_from_contiguous}
use Rattle.pybuf_desc.proofs.Flat.{valid_flat_at, whole_items, places-flat}
use Rattle.pybuf_desc.proofs.SliceFacts.{length-map}

-- the items lie without a gap, wherever they start
abbrev pub HasNoGap : Descriptor → Type 0
HasNoGap d = (start : ℤ) → IsContiguous d.itemsize start (places d.dims start)

-- ---- the bytes stay inside

run_end : (size room n : ℕ) (p : ℤ) → AllByRecursion (IsInside size room) (run size p (suc n)) → (p +ℤ pos (suc n * size)) ≤ℤ pos room
run_end size room zero p all = let i = all.0 in let high = i.high in omega (arith, ints, high)
run_end size room (suc n) p all = let rest = run_end size room n (p +ℤ pos size) all.1 in omega (arith, ints, rest)

end_of : (size room n start len : ℕ) → size * n ≡ len → 0 < len → AllByRecursion (IsInside size room) (run size (pos start) n) → start + len ≤ room
end_of size room zero start len e some all = absurd (let none : size * 0 ≡ 0 = mul-zero size in omega (arith, e, none, some))
end_of size room (suc n) start len e some all =
    let end : (pos start +ℤ pos (suc n * size)) ≤ℤ pos room = run_end size room n (pos start) all in
    let bytes : suc n * size ≡ len = mul_comm (suc n) size ∙ e in
    omega (arith, ints, end, bytes)

pub bytes_inside : (d : Descriptor) (start room : ℕ) → HasNoGap d → IsValid d start room → 0 < d.len → start + d.len ≤ room
bytes_inside d start room gapless valid some =
    end_of d.itemsize room (product (shape_of d.dims)) start d.len valid.len some
    (subst (AllByRecursion (IsInside d.itemsize room)) (run_from_contiguous d.itemsize d.dims (pos start) (gapless (pos start)))
    (recursion_from_All (IsInside d.itemsize room) (places d.dims (pos start)) valid.inside))

product_below : (dims : List (ℕ × ℤ × ℤ)) → product (shape_of dims) ≤ extent_of dims
product_below [] = le_refl 1
product_below ((zero, z, u) ∷ dims) = let none : zero * product (shape_of dims) ≡ 0 = zero-mul (product (shape_of dims)) in omega (arith, none)
product_below ((suc n, z, u) ∷ dims) = mul-le-mul_left (suc n) (product_below dims)

pub len_fits : (d : Descriptor) → IsPlaceable d → d.len < 2 ^ 63
len_fits d can =
    subst (λ n. n < 2 ^ 63) can.placed.valid.len (lt_of_le_of_lt (mul-le-mul_left d.itemsize (product_below d.dims)) can.placed.valid.extent_fits)

pub valid_cast : (d : Descriptor) (format : List ℕ) (size : ℕ) → IsPlaceable d → HasNoGap d → 0 < size → size < 2 ^ 63 → d.len % size ≡ 0
    → (start room : ℕ) → IsValid d start room → IsValid (flat_descriptor format size (d.len / size) d.readonly) start room
valid_cast d format size can gapless some fits whole start room valid =
    valid_flat_at format size (d.len / size) d.len start room d.readonly some fits (whole_items d.len size some whole) (len_fits d can) (bytes_inside d start room gapless valid)

-- ---- the starts

map-pos-from : (size n i first : ℕ) → map (λ k. pos first +ℤ pos (k * size)) (range_with_len i n) ≡ map pos (map (λ k. first + k * size) (range_with_len i n))
map-pos-from size zero i first = refl
map-pos-from size (suc n) i first =
    ap₂ (λ (x : ℤ) (xs : List ℤ). x ∷ xs) (let e : pos first +ℤ pos (i * size) ≡ pos (first + i * size) = omega (arith, ints) in e) (map-pos-from size n (i + 1) first)

pub starts_of_cast : (size count start : ℕ) (xs : List ℤ) (starts : List ℕ) → xs ≡ map pos starts → (0 < length starts → get_or xs 0 (pos 0) ≡ pos start) → (length starts ≡ 0 → count ≡ 0)
    → map (λ k. pos start +ℤ pos (k * size)) (range_with_len 0 count) ≡ map pos (starts_from starts size count)
starts_of_cast size count start xs [] e first none = ap (λ n. map (λ k. pos start +ℤ pos (k * size)) (range_with_len 0 n)) (none refl)
starts_of_cast size count start xs (x ∷ starts) e first none =
    let same : pos x ≡ pos start = ap (λ (ys : List ℤ). get_or ys 0 (pos 0)) (sym e) ∙ first (omega arith) in
    ap (λ (q : ℤ). map (λ k. q +ℤ pos (k * size)) (range_with_len 0 count)) (sym same) ∙ map-pos-from size count 0 x

pub stands_cast : (d : Descriptor) (format : List ℕ) (size : ℕ) → IsPlaceable d
    → (start : ℕ) (view : Layout) → Stands d start view → Stands (flat_descriptor format size (d.len / size) d.readonly) start (cast_of view format size)
stands_cast d format size can start view stands =
    let items : length view.starts ≡ product (shape_of d.dims) = sym (length-map view.starts) ∙ ap (λ (xs : List ℤ). length xs) (sym stands.starts) ∙ length-places d.dims (pos start) in
    let bytes : d.len ≡ length view.starts * view.itemsize =
    sym can.placed.valid.len ∙ mul_comm d.itemsize (product (shape_of d.dims)) ∙ ap₂ (λ (n k : ℕ). n * k) (sym items) stands.itemsize in
    let count : d.len / size ≡ cast_count view size = ap (λ (n : ℕ). n / size) bytes in
    record {
      format = refl;
      itemsize = refl;
      shape = ap (λ (n : ℕ). n ∷ []) count;
      strides = refl;
      readonly = stands.readonly;
      starts = places-flat size (d.len / size) (pos start)
          ∙ starts_of_cast size (d.len / size) start (places d.dims (pos start)) view.starts stands.starts
          (λ some. first-places d.dims (pos start) (pos 0) (some_entries d.dims (subst (λ n. 0 < n) items some)))
          (λ none. ap (λ (n : ℕ). n / size) (bytes ∙ ap (λ (n : ℕ). n * view.itemsize) none ∙ zero-mul view.itemsize) ∙ zero-div size)
          ∙ ap (λ n. map pos (starts_from view.starts size n)) count;
    }

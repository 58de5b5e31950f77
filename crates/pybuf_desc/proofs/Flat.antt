-- One dimension of items one after the other is valid.
use Rattle.std.proofs.Common.{◌≡◌, ◌≢◌, ℕ, zero, suc, ◌+◌, ◌*◌, ◌/◌, ◌%◌, ◌^◌, ◌<◌, ◌≤◌, ℤ, pos, ◌+ℤ◌, ◌≤ℤ◌, lit≤, Bool, List, [], ◌∷◌, map, All, refl, ap, ap₂, codes, sym, ◌∙◌, subst, arith, div-add-mod', mul-one, mul-pos, zero-lt-suc}
use Rattle.std.proofs.lemmas.Int.{ints}
use Rattle.std.specs.List.{range_with_len}
use Rattle.std.proofs.lemmas.List.Elements.{All-nil, All-cons, All-from_recursion}
use Rattle.pybuf_lemmas.proofs.Numbers.{positive_is_nonzero}
use Rattle.pybuf_desc.specs.Layouts.{flat_layout, bytes_layout, bytes_layout_from}
use Rattle.pybuf_desc.specs.Descriptor.{flat_descriptor}
use Rattle.pybuf_desc.specs.Places.{places, Stands}
use Rattle.pybuf_desc.specs.Valid.{IsInside, IsValid}
use Rattle.pybuf_desc.proofs.Inside.{inside_from_reach}
use Rattle.pybuf_desc.proofs.Products.{extent_of}
use Rattle.pybuf_desc.proofs.Runs.{run, map-run-0, places_from_strides}

extent_flat : (size count len : ℕ) → count * size ≡ len → size < 2 ^ 63 → len < 2 ^ 63 → size * extent_of ((count, pos size, pos 0) ∷ []) < 2 ^ 63
extent_flat size zero len e f g = subst (λ n. n < 2 ^ 63) (sym (mul-one size)) f
extent_flat size (suc n) len e f g = subst (λ n. n < 2 ^ 63) (let z : len ≡ size * (suc n * 1) = omega (arith, e) in z) g

reach_back : (n start : ℕ) → pos (n * 0 + 0) ≤ℤ pos start
reach_back n start = omega (arith, ints)

reach_forth : (size n len start room : ℕ) → suc n * size ≡ len → start + len ≤ room → (pos start +ℤ pos (n * size + 0 + size)) ≤ℤ pos room
reach_forth size n len start room e h = omega (arith, ints, e, h)

some_bytes : (size n len : ℕ) → 0 < size → suc n * size ≡ len → 0 < len
some_bytes size n len some e = let more : 0 < suc n * size = mul-pos (zero-lt-suc n) some in omega (arith, e, more)

inside_flat : (size count len start room : ℕ) → 0 < size → count * size ≡ len → (0 < len → start + len ≤ room) → All (IsInside size room) (places ((count, pos size, pos 0) ∷ []) (pos start))
inside_flat size zero len start room some e h = All-nil (IsInside size room)
inside_flat size (suc n) len start room some e h =
    All-from_recursion (IsInside size room) (places ((suc n, pos size, pos 0) ∷ []) (pos start))
    (inside_from_reach size room ((suc n, pos size, pos 0) ∷ []) (pos start)
    (record { least = reach_back n start; greatest = reach_forth size n len start room e (h (some_bytes size n len some e)) }))

-- a descriptor of one dimension is valid if its bytes, if there are any, lie inside from this start on
pub valid_flat_at : (format : List ℕ) (size count len start room : ℕ) (readonly : Bool) → 0 < size → size < 2 ^ 63 → count * size ≡ len → len < 2 ^ 63 → (0 < len → start + len ≤ room) → IsValid (flat_descriptor format size count readonly) start room
valid_flat_at format size count len start room readonly some fits e len_fits inside =
    record {
      some_size = some;
      size_fits = fits;
      few_dimensions = lit≤ tt;
      strides = All-cons (λ dim. dim.1 ≢ pos 0) (count, pos size, pos 0) [] (positive_is_nonzero size some) (All-nil (λ dim. dim.1 ≢ pos 0));
      suboffsets = All-cons (λ dim. dim.2 ≡ pos 0) (count, pos size, pos 0) [] refl (All-nil (λ dim. dim.2 ≡ pos 0));
      later_entries = All-nil (λ dim. 0 < dim.0);
      extent_fits = extent_flat size count len e fits len_fits;
      len = (let z : size * (count * 1) ≡ count * size = omega arith in z);
      inside = inside_flat size count len start room some e inside;
    }

pub valid_flat : (format : List ℕ) (size count len : ℕ) (readonly : Bool) → 0 < size → size < 2 ^ 63 → count * size ≡ len → len < 2 ^ 63 → IsValid (flat_descriptor format size count readonly) 0 len
valid_flat format size count len readonly some fits e len_fits =
    valid_flat_at format size count len 0 len readonly some fits e len_fits (λ _. omega arith)

pub whole_items : (len size : ℕ) → 0 < size → len % size ≡ 0 → len / size * size ≡ len
whole_items len size some e = let d = div-add-mod' len size in omega (arith, d, e)

pub places-flat : (size count : ℕ) (start : ℤ) → places ((count, pos size, pos 0) ∷ []) start ≡ map (λ k. start +ℤ pos (k * size)) (range_with_len 0 count)
places-flat size count start =
    places_from_strides size ((count, pos size, pos 0) ∷ []) ((λ _. ap (λ n. pos n) (sym (mul-one size))), tt) start
    ∙ ap (λ n. run size start n) (mul-one count) ∙ sym (map-run-0 size count start)

pub map-pos : (size n i : ℕ) → map (λ k. pos 0 +ℤ pos (k * size)) (range_with_len i n) ≡ map pos (map (λ k. k * size) (range_with_len i n))
map-pos size zero i = refl
map-pos size (suc n) i = ap₂ (λ (x : ℤ) (xs : List ℤ). x ∷ xs) (let e : pos 0 +ℤ pos (i * size) ≡ pos (i * size) = omega (arith, ints) in e) (map-pos size n (i + 1))

map-times-1 : (n i : ℕ) → map (λ k. k * 1) (range_with_len i n) ≡ range_with_len i n
map-times-1 zero i = refl
map-times-1 (suc n) i = ap₂ (λ (x : ℕ) (xs : List ℕ). x ∷ xs) (mul-one i) (map-times-1 n (i + 1))

pub stands_flat : (format : List ℕ) (size count : ℕ) (readonly : Bool) → Stands (flat_descriptor format size count readonly) 0 (flat_layout format size count readonly)
stands_flat format size count readonly =
    record {
      format = refl;
      itemsize = refl;
      shape = refl;
      strides = refl;
      readonly = refl;
      starts = places-flat size count (pos 0) ∙ map-pos size count 0;
    }

pub stands_bytes : (count : ℕ) (readonly : Bool) → Stands (flat_descriptor (codes "B") 1 count readonly) 0 (bytes_layout count readonly)
stands_bytes count readonly =
    record {
      format = refl;
      itemsize = refl;
      shape = refl;
      strides = refl;
      readonly = refl;
      starts = places-flat 1 count (pos 0) ∙ map-pos 1 count 0 ∙ ap (λ (xs : List ℕ). map pos xs) (map-times-1 count 0);
    }

-- ---- bytes from any place on

map-pos-from : (n i start : ℕ) → map (λ k. pos start +ℤ pos (k * 1)) (range_with_len i n) ≡ map pos (range_with_len (start + i) n)
map-pos-from zero i start = refl
map-pos-from (suc n) i start =
    ap₂ (λ (x : ℤ) (xs : List ℤ). x ∷ xs) (let e : pos start +ℤ pos (i * 1) ≡ pos (start + i) = omega (arith, ints) in e)
    (map-pos-from n (i + 1) start ∙ ap (λ (m : ℕ). map pos (range_with_len m n)) (let e : start + (i + 1) ≡ start + i + 1 = omega arith in e))

lit_fits : 1 < 2 ^ 63
lit_fits = lit≤ tt

pub stands_bytes_from : (count start : ℕ) (readonly : Bool) → Stands (flat_descriptor (codes "B") 1 count readonly) start (bytes_layout_from start count readonly)
stands_bytes_from count start readonly =
    record {
      format = refl;
      itemsize = refl;
      shape = refl;
      strides = refl;
      readonly = refl;
      starts = places-flat 1 count (pos start) ∙ map-pos-from count 0 start ∙ ap (λ (m : ℕ). map pos (range_with_len m count)) (let e : start + 0 ≡ start = omega arith in e);
    }

pub valid_bytes_from : (count start room : ℕ) (readonly : Bool) → count < 2 ^ 63 → start + count ≤ room → IsValid (flat_descriptor (codes "B") 1 count readonly) start room
valid_bytes_from count start room readonly fits inside =
    valid_flat_at (codes "B") 1 count count start room readonly (omega arith) (lit_fits) (mul-one count) fits (λ _. inside)

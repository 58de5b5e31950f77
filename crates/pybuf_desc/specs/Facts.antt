-- Facts about the definitions of this crate, with their proofs, for the proofs of the crates above.
use Rattle.std.proofs.Common.{◌≡◌, ℕ, zero, suc, ◌+◌, ◌*◌, length, map, ap, sym, ◌∙◌, refl, Bool, true, false, not, true≢false, ◌-◌, ◌<◌, List, ◌++◌, arith, ℤ, [], ◌∷◌, ap₂, pos, ◌≤◌, nat_abs, mul-pos, drop, subst, zero-lt-suc}
use Rattle.std.specs.List.{range_with_len, flat_map, AllByRecursion}
use Rattle.std.proofs.lemmas.List.FromFn.{length-range_with_len, length-map-range_with_len, get_or-range_with_len}
use Rattle.std.specs.Prelude.{Ok, ◌+ℤ◌, ◌*ℤ◌, All, if◌then◌else◌, ◌==◌}
use Rattle.std.specs.declared.ops.Range.{Range}
use Rattle.std.proofs.lemmas.List.{length-append, drop-map, length-map, length-take-le, length-drop}
use Rattle.std.proofs.lemmas.List.Elements.{All-nil, All-cons, All-head, All-tail}
use Rattle.std.proofs.lemmas.Grind.{common_steps, flat_map-append}
use Rattle.std.proofs.lemmas.Slice.Eq.{bytes_eq-Decides}
use Rattle.std.proofs.Math.Nat.{mul-zero, mul_assoc}
use Rattle.pybuf_lemmas.proofs.Lists.{places_by_ones, all_left}
use Rattle.pybuf_value.specs.Refusing.{◌>>=◌, unless}
use Rattle.pybuf_desc.specs.Contiguous.{starts_from, is_contiguous_layout}
use Rattle.pybuf_desc.specs.Layouts.{Layout, product, bytes_layout, LiesInside}
use Rattle.pybuf_desc.specs.declared.line.SegmentLine.{SegmentLine}
use Rattle.pybuf_desc.specs.SegmentLines.{ranges_of_line, range_on, IsLine}
use Rattle.pybuf_desc.specs.Descriptor.{shape_of, Descriptor}
use Rattle.pybuf_desc.specs.Places.{places}
use Rattle.pybuf_desc.specs.Segments.{range_at, ranges_of, joined_dims, outer_dims, bytes_of}
use Rattle.pybuf_desc.specs.Items.{bytes_at, bytes_of_items}
use Rattle.pybuf_desc.specs.Valid.{nonzero_entries}
use Rattle.pybuf_value.specs.declared.faults.Fault.TheVariants as fault

pub whole_starts : (n : ℕ) → range_with_len 0 n ≡ starts_from (range_with_len 0 n) 1 (length (range_with_len 0 n))
whole_starts zero = refl
whole_starts (suc n) = sym (ap (λ (m : ℕ). map (λ k. 0 + k * 1) (range_with_len 0 m)) (length-range_with_len 0 (suc n)) ∙ places_by_ones (range_with_len 0 (suc n)))

pub layout_passes : (b : Bool) (l : Layout) → not b ≡ true → (unless b fault.Value >>= λ u. Ok l) ≡ Ok l
layout_passes true l live = absurd (true≢false (sym live))
layout_passes false l live = refl

pub length-line : (line : SegmentLine) → length (ranges_of_line line) ≡ line.count
length-line line = length-map-range_with_len (range_on line.track.falls line.track.start line.track.step line.size) 0 line.count

-- there are fewer ranges left
pub fewer_ranges : (line : SegmentLine) (ranges others : List (Range ℕ)) → ranges ≡ ranges_of_line line ++ others → IsLine line → length others < length ranges
fewer_ranges line ranges others same is =
    let long : length ranges ≡ line.count + length others = ap length same ∙ length-append (ranges_of_line line) others
    ∙ ap (λ (n : ℕ). n + length others) (length-map-range_with_len (range_on line.track.falls line.track.start line.track.step line.size) 0 line.count) in
    omega (arith, long, is.some)

pub each_long : (f : ℕ → List ℤ) (n : ℕ) (xs : List ℕ) → ((i : ℕ) → length (f i) ≡ n) → length (flat_map f xs) ≡ length xs * n
each_long f n [] same = let none : 0 * n ≡ 0 = grind arith in sym none
each_long f n (x ∷ xs) same =
    let more : n + length xs * n ≡ suc (length xs) * n = grind arith in
    length-append (f x) (flat_map f xs) ∙ ap₂ (λ (a b : ℕ). a + b) (same x) (each_long f n xs same) ∙ more

pub length-places : (dims : List (ℕ × ℤ × ℤ)) (start : ℤ) → length (places dims start) ≡ product (shape_of dims)
length-places [] start = refl
length-places (dim ∷ dims) start =
    each_long (λ index. places dims (start +ℤ pos index *ℤ dim.1)) (product (shape_of dims)) (range_with_len 0 dim.0) (λ i. length-places dims (start +ℤ pos i *ℤ dim.1))
    ∙ ap (λ (n : ℕ). n * product (shape_of dims)) (length-range_with_len 0 dim.0)

pub forward_at : (w : ℕ) (ps : List ℤ) → All (λ (range : Range ℕ). range.start ≤ range.end) (map (range_at w) ps)
forward_at w [] = All-nil (λ (range : Range ℕ). range.start ≤ range.end)
forward_at w (p ∷ ps) = All-cons (λ (range : Range ℕ). range.start ≤ range.end) (range_at w p) (map (range_at w) ps) (let low : nat_abs p ≤ nat_abs p + w = omega arith in low) (forward_at w ps)

pub forward_where : (b : Bool) (w : ℕ) (ps : List ℤ) → All (λ (range : Range ℕ). range.start ≤ range.end) (if b then [] else map (range_at w) ps)
forward_where true w ps = All-nil (λ (range : Range ℕ). range.start ≤ range.end)
forward_where false w ps = forward_at w ps

pub forward_ranges : (d : Descriptor) (start : ℤ) (joined : ℕ) → All (λ (range : Range ℕ). range.start ≤ range.end) (ranges_of d start joined)
forward_ranges d start joined = forward_where (product (shape_of d.dims) == 0) (product (shape_of (joined_dims joined d.dims)) * d.itemsize) (places (outer_dims joined d.dims) start)

pub as_many : (dims : List (ℕ × ℤ × ℤ)) → length (shape_of dims) ≡ length dims
as_many [] = refl
as_many (dim ∷ dims) = ap suc (as_many dims)

pub whole_bytes : (bytes : List ℕ) (size start : ℕ) → start + size ≤ length bytes → length (bytes_at bytes size start) ≡ size
whole_bytes bytes size start inside = grind (arith, common_steps, inside)

pub positive_product : (shape : List ℕ) → All (λ n. 0 < n) shape → 0 < product shape
positive_product [] some = omega arith
positive_product (n ∷ shape) some = mul-pos (All-head (λ m. 0 < m) n shape some) (positive_product shape (All-tail (λ m. 0 < m) n shape some))

pub nonzero_is : (shape : List ℕ) → AllByRecursion (λ n. 0 < n) shape → nonzero_entries shape ≡ shape
nonzero_is [] h = refl
nonzero_is (zero ∷ shape) h = absurd (let low = h.0 in omega (arith, low))
nonzero_is (suc n ∷ shape) h = ap (λ (ns : List ℕ). suc n ∷ ns) (nonzero_is shape h.1)

pub some_shape : (dims : List (ℕ × ℤ × ℤ)) → AllByRecursion (λ (dim : ℕ × ℤ × ℤ). 0 < dim.0) dims → AllByRecursion (λ n. 0 < n) (shape_of dims)
some_shape [] h = tt
some_shape (dim ∷ dims) h = (h.0, some_shape dims h.1)

pub whole_is_contiguous : (n : ℕ) (readonly : Bool) → is_contiguous_layout (bytes_layout n readonly) ≡ true
whole_is_contiguous n readonly = (bytes_eq-Decides (range_with_len 0 n) (starts_from (range_with_len 0 n) 1 (length (range_with_len 0 n)))).1 (whole_starts n)

pub whole_is_inside : (n : ℕ) (readonly : Bool) → LiesInside n (bytes_layout n readonly)
whole_is_inside n readonly = λ k d below.
    let within : k < n = omega (arith, below, length-range_with_len 0 n) in
    omega (arith, within, get_or-range_with_len 0 n k d within)

abbrev pub width : Range ℕ → ℕ
width range = range.end - range.start

pub widths_of_ranges : (w : ℕ) (ps : List ℤ) → All (λ range. width range ≡ w) (map (range_at w) ps)
widths_of_ranges w [] = All-nil (λ range. width range ≡ w)
widths_of_ranges w (p ∷ ps) = All-cons (λ range. width range ≡ w) (range_at w p) (map (range_at w) ps) (let same : (nat_abs p + w) - nat_abs p ≡ w = omega arith in same) (widths_of_ranges w ps)

pub chosen_widths : (w : ℕ) (b : Bool) (ps : List ℤ) → All (λ range. width range ≡ w) (if b then [] else map (range_at w) ps)
chosen_widths w true ps = All-nil (λ range. width range ≡ w)
chosen_widths w false ps = widths_of_ranges w ps

abbrev pub row_width : ℕ → ℕ → List ℕ → ℕ
row_width itemsize joined shape = product (drop (length shape - joined) shape) * itemsize

pub width_of_shape : (itemsize joined : ℕ) (dims : List (ℕ × ℤ × ℤ)) → product (shape_of (joined_dims joined dims)) * itemsize ≡ row_width itemsize joined (shape_of dims)
width_of_shape itemsize joined dims =
    ap (λ (shape : List ℕ). product shape * itemsize)
    (sym (drop-map (λ (dim : ℕ × ℤ × ℤ). dim.0) (length dims - joined) dims) ∙ ap (λ (n : ℕ). drop (n - joined) (shape_of dims)) (sym (length-map dims (λ (dim : ℕ × ℤ × ℤ). dim.0))))

pub range_widths : (d : Descriptor) (start : ℤ) (joined : ℕ) → All (λ range. width range ≡ row_width d.itemsize joined (shape_of d.dims)) (ranges_of d start joined)
range_widths d start joined =
    subst (λ (w : ℕ). All (λ range. width range ≡ w) (ranges_of d start joined)) (width_of_shape d.itemsize joined d.dims)
    (chosen_widths (product (shape_of (joined_dims joined d.dims)) * d.itemsize) (product (shape_of d.dims) == 0) (places (outer_dims joined d.dims) start))

pub positive_extent : (shape : List ℕ) → 0 < product (nonzero_entries shape)
positive_extent [] = omega arith
positive_extent (zero ∷ shape) = positive_extent shape
positive_extent (suc n ∷ shape) = mul-pos (zero-lt-suc n) (positive_extent shape)

abbrev pub Inside : List ℕ → List (Range ℕ) → Type 0
Inside bytes ranges = All (λ (place : ℕ). place < length bytes) (flat_map bytes_of ranges)

pub bytes_split : (first ranges others : List (Range ℕ)) → ranges ≡ first ++ others → flat_map bytes_of ranges ≡ flat_map bytes_of first ++ flat_map bytes_of others
bytes_split first ranges others same = ap (flat_map bytes_of) same ∙ flat_map-append bytes_of first others

pub first_inside : (bytes : List ℕ) (first ranges others : List (Range ℕ)) → ranges ≡ first ++ others → Inside bytes ranges → Inside bytes first
first_inside bytes first ranges others same all =
    all_left (λ (place : ℕ). place < length bytes) (flat_map bytes_of first) (flat_map bytes_of others) (subst (All (λ (place : ℕ). place < length bytes)) (bytes_split first ranges others same) all)

-- as many bytes as all items have
pub length-content : (bytes : List ℕ) (size : ℕ) (starts : List ℕ) → All (λ start. start + size ≤ length bytes) starts → length (bytes_of_items bytes size starts) ≡ size * length starts
length-content bytes size [] inside = sym (mul-zero size)
length-content bytes size (start ∷ starts) inside =
    let here : start + size ≤ length bytes = All-head (λ s. s + size ≤ length bytes) start starts inside in
    let fits : size ≤ length (drop start bytes) = omega (arith, length-drop start bytes) in
    length-append (bytes_at bytes size start) (bytes_of_items bytes size starts)
    ∙ ap₂ (λ m n. m + n) (length-take-le size (drop start bytes) fits) (length-content bytes size starts (All-tail (λ s. s + size ≤ length bytes) start starts inside))
    ∙ grind arith

pub product-push : (shape : List ℕ) (n : ℕ) → product (shape ++ n ∷ []) ≡ product shape * n
product-push [] n = omega arith
product-push (m ∷ shape) n = ap (λ k. m * k) (product-push shape n) ∙ sym (mul_assoc m (product shape) n)

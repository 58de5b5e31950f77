-- Items one after the other, as lists of places and of their bytes.
use Rattle.std.proofs.Common.{◌≡◌, ℕ, zero, suc, ◌+◌, ◌*◌, ◌/◌, ◌%◌, ◌<◌, ◌≤◌, ℤ, pos, List, [], ◌∷◌, ◌++◌, length, map, take, drop, drop-drop, refl, ap, ap₂, sym, ◌∙◌, subst, arith, div-add-mod', div-mul-le_self, mul-div_cancel, zero-mul, true}
use Rattle.std.proofs.Math.Nat.{zero-div}
use Rattle.std.proofs.lemmas.List.FromFn.{length-map-range_with_len, get_or-map-range_with_len}
use Rattle.std.proofs.lemmas.List.Elements.{All-nil, All-from_recursion, recursion_from_All}
use Rattle.std.proofs.lemmas.Option.{slice_get-get_or}
use Rattle.std.proofs.lemmas.Slice.Eq.{bytes_eq-Decides}
use Rattle.std.specs.Prelude.{Some, slice_get, slice_index, All}
use Rattle.std.specs.List.{range_with_len, AllByRecursion}
use Rattle.pybuf_lemmas.proofs.Numbers.{whole_quotient}
use Rattle.pybuf_desc.specs.Layouts.{Layout, LiesInside, product}
use Rattle.pybuf_desc.specs.Items.{bytes_of_items}
use Rattle.pybuf_desc.specs.Contiguous.{starts_from, is_contiguous_layout}
use Rattle.pybuf_desc.specs.Casts.{cast_of, cast_count}
use Rattle.pybuf_desc.specs.ShapedCasts.{cast_to}
use Rattle.pybuf_desc.specs.Laws.{SharesBytes}

pub starts_of_contiguous : (view : Layout) → is_contiguous_layout view ≡ true → view.starts ≡ starts_from view.starts view.itemsize (length view.starts)
starts_of_contiguous view told = (bytes_eq-Decides view.starts (starts_from view.starts view.itemsize (length view.starts))).0 told

-- ---- the bytes of a run of items

no_take : (n : ℕ) → take {A = ℕ} n [] ≡ []
no_take zero = refl
no_take (suc n) = refl

take_both : (a b : ℕ) (xs : List ℕ) → take a xs ++ take b (drop a xs) ≡ take (a + b) xs
take_both zero b xs = ap (λ (n : ℕ). take n xs) (let e : b ≡ zero + b = omega arith in e)
take_both (suc a) b [] = no_take b ∙ sym (no_take (suc a + b))
take_both (suc a) b (x ∷ xs) =
    ap (λ (ys : List ℕ). x ∷ ys) (take_both a b xs) ∙ ap (λ (n : ℕ). take n (x ∷ xs)) (let e : suc (a + b) ≡ suc a + b = omega arith in e)

bytes_of_run : (bytes : List ℕ) (size first n i : ℕ) → bytes_of_items bytes size (map (λ k. first + k * size) (range_with_len i n)) ≡ take (n * size) (drop (first + i * size) bytes)
bytes_of_run bytes size first zero i = ap (λ (m : ℕ). take m (drop (first + i * size) bytes)) (sym (zero-mul size))
bytes_of_run bytes size first (suc n) i =
    let next : first + (i + 1) * size ≡ first + i * size + size = omega arith in
    ap (λ (ys : List ℕ). take size (drop (first + i * size) bytes) ++ ys)
    (bytes_of_run bytes size first n (i + 1) ∙ ap (λ (m : ℕ). take (n * size) (drop m bytes)) next
    ∙ ap (take (n * size)) (sym (drop-drop size (first + i * size) bytes)))
    ∙ take_both size (n * size) (drop (first + i * size) bytes)
    ∙ ap (λ (m : ℕ). take m (drop (first + i * size) bytes)) (let e : size + n * size ≡ suc n * size = omega arith in e)

pub bytes_from : (bytes : List ℕ) (size first n : ℕ) → bytes_of_items bytes size (map (λ k. first + k * size) (range_with_len 0 n)) ≡ take (n * size) (drop first bytes)
bytes_from bytes size first n =
    bytes_of_run bytes size first n 0 ∙ ap (λ (m : ℕ). take (n * size) (drop m bytes)) (let e : first + 0 * size ≡ first = omega arith in e)

same_bytes : (bytes starts : List ℕ) (itemsize size : ℕ) → starts ≡ starts_from starts itemsize (length starts) → length starts * itemsize % size ≡ 0
    → bytes_of_items bytes size (starts_from starts size (length starts * itemsize / size)) ≡ bytes_of_items bytes itemsize starts
same_bytes bytes [] itemsize size flat whole = refl
same_bytes bytes (first ∷ starts) itemsize size flat whole =
    bytes_from bytes size first (length (first ∷ starts) * itemsize / size)
    ∙ ap (λ (m : ℕ). take m (drop first bytes)) (whole_quotient (length (first ∷ starts) * itemsize) size whole)
    ∙ sym (ap (bytes_of_items bytes itemsize) flat ∙ bytes_from bytes itemsize first (length (first ∷ starts)))

-- ---- the places of a run

pub length-cast : (starts : List ℕ) (itemsize size : ℕ) → length (starts_from starts size (length starts * itemsize / size)) ≡ length starts * itemsize / size
length-cast [] itemsize size = sym (ap (λ (n : ℕ). n / size) (zero-mul itemsize) ∙ zero-div size)
length-cast (first ∷ starts) itemsize size = length-map-range_with_len (λ k. first + k * size) 0 (length (first ∷ starts) * itemsize / size)

start_at : (starts : List ℕ) (size count k : ℕ) → k < length (starts_from starts size count) → slice_get (starts_from starts size count) k ≡ Some (slice_index starts 0 + k * size)
start_at [] size count k below = absurd (let wrong : k < 0 = below in omega (arith, wrong))
start_at (first ∷ starts) size count k below =
    let few : k < count = subst (λ (n : ℕ). k < n) (length-map-range_with_len (λ j. first + j * size) 0 count) below in
    slice_get-get_or (map (λ j. first + j * size) (range_with_len 0 count)) k 0 below
    ∙ ap (λ (p : ℕ). Some p) (get_or-map-range_with_len (λ j. first + j * size) 0 count k k 0 few (let e : 0 + k ≡ k = omega arith in e))

pub casts_share : (bytes : List ℕ) (view : Layout) (format : List ℕ) (size : ℕ) → is_contiguous_layout view ≡ true → 0 < size → length view.starts * view.itemsize % size ≡ 0
    → SharesBytes bytes view (cast_of view format size)
casts_share bytes view format size told some whole = record {
  count = ap (λ (n : ℕ). n * size) (length-cast view.starts view.itemsize size) ∙ whole_quotient (length view.starts * view.itemsize) size whole;
  starts = λ k below. start_at view.starts size (cast_count view size) k below;
  content = same_bytes bytes view.starts view.itemsize size (starts_of_contiguous view told) whole;
  readonly = refl;
}

-- ---- inside

runs_inside : (room size first n i : ℕ) → first + (i + n) * size ≤ room → AllByRecursion (λ start. start + size ≤ room) (map (λ k. first + k * size) (range_with_len i n))
runs_inside room size first zero i fits = tt
runs_inside room size first (suc n) i fits = (
  (let more : (i + 1) * size ≤ (i + suc n) * size = grind arith in omega (arith, fits, more)),
  runs_inside room size first n (i + 1) (let same : (i + 1 + n) * size ≡ (i + suc n) * size = omega arith in omega (arith, fits, same)),
)

run_ends : (room size first n i : ℕ) → AllByRecursion (λ start. start + size ≤ room) (map (λ k. first + k * size) (range_with_len i (suc n))) → first + (i + suc n) * size ≤ room
run_ends room size first zero i all = let here = all.0 in omega (arith, here)
run_ends room size first (suc n) i all = let later = run_ends room size first n (i + 1) all.1 in let same : (i + 1 + suc n) * size ≡ (i + suc (suc n)) * size = omega arith in omega (arith, later, same)

inside_from : (room itemsize size : ℕ) (starts : List ℕ) → starts ≡ starts_from starts itemsize (length starts) → All (λ start. start + itemsize ≤ room) starts
    → All (λ start. start + size ≤ room) (starts_from starts size (length starts * itemsize / size))
inside_from room itemsize size [] flat all = All-nil (λ start. start + size ≤ room)
inside_from room itemsize size (first ∷ starts) flat all =
    let count : ℕ = length (first ∷ starts) * itemsize / size in
    let run = subst (λ (xs : List ℕ). AllByRecursion (λ start. start + itemsize ≤ room) xs) flat (recursion_from_All (λ start. start + itemsize ≤ room) (first ∷ starts) all) in
    let end : first + (0 + suc (length starts)) * itemsize ≤ room = run_ends room itemsize first (length starts) 0 run in
    let less : count * size ≤ length (first ∷ starts) * itemsize = div-mul-le_self (length (first ∷ starts) * itemsize) size in
    All-from_recursion (λ start. start + size ≤ room) (map (λ k. first + k * size) (range_with_len 0 count))
    (runs_inside room size first count 0 (omega (arith, end, less)))

pub casts_inside : (view : Layout) (format : List ℕ) (size room : ℕ) → is_contiguous_layout view ≡ true → LiesInside room view → LiesInside room (cast_of view format size)
casts_inside view format size room told all = inside_from room view.itemsize size view.starts (starts_of_contiguous view told) all

pub casts_shape : (view : Layout) (format : List ℕ) (size : ℕ) → length (cast_of view format size).starts ≡ cast_count view size * 1
casts_shape view format size = length-cast view.starts view.itemsize size ∙ (let once : cast_count view size ≡ cast_count view size * 1 = omega arith in once)

from_itself : (starts : List ℕ) (size count : ℕ) → length (starts_from starts size count) ≡ count → starts_from starts size count ≡ starts_from (starts_from starts size count) size (length (starts_from starts size count))
from_itself [] size count e = refl
from_itself (first ∷ starts) size zero e = refl
from_itself (first ∷ starts) size (suc count) e =
    ap (λ (p : ℕ). map (λ k. p + k * size) (range_with_len 0 (suc count))) (let same : first ≡ first + 0 * size = omega arith in same)
    ∙ ap (λ (n : ℕ). map (λ k. first + 0 * size + k * size) (range_with_len 0 n)) (sym e)

pub casts_contiguous : (view : Layout) (format : List ℕ) (size : ℕ) → is_contiguous_layout (cast_of view format size) ≡ true
casts_contiguous view format size =
    let cast = starts_from view.starts size (cast_count view size) in
    (bytes_eq-Decides cast (starts_from cast size (length cast))).1 (from_itself view.starts size (cast_count view size) (length-cast view.starts view.itemsize size))

-- ---- casts to a shape

abbrev one_dim_cast : Layout → List ℕ → ℕ → List ℕ → List ℤ → Layout
one_dim_cast view format size starts strides =
    record { format = format; itemsize = size; shape = cast_count view size ∷ []; starts = starts; strides = strides; readonly = view.readonly }

quotient_is : (count size len : ℕ) → 0 < size → len ≡ count * size → len / size ≡ count
quotient_is count size len some e = ap (λ (n : ℕ). n / size) e ∙ mul-div_cancel count some

rest_of : (count size len : ℕ) → 0 < size → len ≡ count * size → len % size ≡ 0
rest_of count size len some e =
    let whole = div-add-mod' len size in
    let times : len / size * size ≡ count * size = ap (λ (n : ℕ). n * size) (quotient_is count size len some e) in
    omega (arith, whole, times, e)

-- these places are those of the cast to one dimension
same_starts : (view : Layout) (size : ℕ) (shape : List ℕ) → 0 < size → length view.starts * view.itemsize ≡ product shape * size → starts_from view.starts size (cast_count view size) ≡ starts_from view.starts size (product shape)
same_starts view size shape some whole = ap (starts_from view.starts size) (quotient_is (product shape) size (length view.starts * view.itemsize) some whole)

pub shaped_shape : (view : Layout) (format : List ℕ) (size : ℕ) (shape : List ℕ) → 0 < size → length view.starts * view.itemsize ≡ product shape * size → length (cast_to view format size shape).starts ≡ product shape
shaped_shape view format size shape some whole =
    ap (λ (xs : List ℕ). length xs) (sym (same_starts view size shape some whole)) ∙ length-cast view.starts view.itemsize size ∙ quotient_is (product shape) size (length view.starts * view.itemsize) some whole

pub shaped_share : (bytes : List ℕ) (view : Layout) (format : List ℕ) (size : ℕ) (shape : List ℕ) → is_contiguous_layout view ≡ true → 0 < size → length view.starts * view.itemsize ≡ product shape * size
    → SharesBytes bytes view (cast_to view format size shape)
shaped_share bytes view format size shape told some whole = record {
  count = ap (λ (n : ℕ). n * size) (shaped_shape view format size shape some whole) ∙ sym whole;
  starts = λ k below. start_at view.starts size (product shape) k below;
  content = ap (bytes_of_items bytes size) (sym (same_starts view size shape some whole))
      ∙ same_bytes bytes view.starts view.itemsize size (starts_of_contiguous view told) (rest_of (product shape) size (length view.starts * view.itemsize) some whole);
  readonly = refl;
}

pub shaped_inside : (view : Layout) (format : List ℕ) (size : ℕ) (shape : List ℕ) (room : ℕ) → is_contiguous_layout view ≡ true → 0 < size → length view.starts * view.itemsize ≡ product shape * size
    → LiesInside room view → LiesInside room (cast_to view format size shape)
shaped_inside view format size shape room told some whole all =
    subst (All (λ start. start + size ≤ room)) (same_starts view size shape some whole) (inside_from room view.itemsize size view.starts (starts_of_contiguous view told) all)

pub one_dimension : (view : Layout) (format : List ℕ) (size : ℕ) → cast_of view format size ≡ cast_to view format size (cast_count view size ∷ [])
one_dimension view format size =
    let count : cast_count view size ≡ cast_count view size * 1 = omega arith in
    let stride : size ≡ size * 1 = omega arith in
    ap₂ (λ (starts : List ℕ) (strides : List ℤ). one_dim_cast view format size starts strides) (ap (starts_from view.starts size) count) (ap (λ (n : ℕ). pos n ∷ []) stride)

-- Two rows of ranges, walked side by side.
use Rattle.std.proofs.Common.{◌≡◌, ℕ, zero, suc, ◌+◌, ◌-◌, ◌*◌, ◌<◌, ◌≤◌, Bool, true, false, true≢false, List, [], ◌∷◌, ◌++◌, length, map, take, drop, ap, ap₂, sym, ◌∙◌, refl, subst, arith}
use Rattle.std.specs.Prelude.{All, ◌&&◌, bytes_eq}
use Rattle.std.specs.List.{list_all, range_with_len, zip}
use Rattle.std.specs.Ordering.{int_eq}
use Rattle.std.specs.declared.ops.Range.{Range}
use Rattle.std.proofs.Math.Nat.{mul-zero}
use Rattle.std.proofs.lemmas.List.{length-append, map-append, get_or_append_left, get_or-append-add}
use Rattle.std.proofs.lemmas.List.Elements.{All-head, All-tail}
use Rattle.std.proofs.lemmas.List.Folds.{list_all-append}
use Rattle.std.proofs.lemmas.List.FromFn.{length-map-range_with_len}
use Rattle.pybuf_lemmas.proofs.Numbers.{range_with_one_more}
use Rattle.pybuf_strided.specs.Apart.{place_of, AreInside}
use Rattle.pybuf_struct.specs.Digits.{number}
use Rattle.pybuf_desc.specs.declared.line.SegmentLine.{SegmentLine}
use Rattle.pybuf_desc.specs.Segments.{bytes_in}
use Rattle.pybuf_desc.specs.SegmentLines.{range_on, ranges_of_line, IsLine}
use Rattle.pybuf_equality.specs.Tracks.{all_below, piece, same_piece, same_number}
use Rattle.pybuf_equality.specs.Walks.{IsPart, ArePaired, AreAsLong, HaveSizes, pairs_of_lines, same_bytes_in, same_ranges, same_numbers_in, same_numbers_of}

-- ---- the pairs of two rows, by their numbers

abbrev pub range_of : SegmentLine → ℕ → Range ℕ
range_of line k = range_on line.track.falls line.track.start line.track.step line.size k

abbrev pub places_on : SegmentLine → ℕ → ℕ
places_on line k = place_of line.track.falls line.track.start line.track.step k

abbrev pub pair_on : SegmentLine → SegmentLine → ℕ → Range ℕ × Range ℕ
pair_on line other k = (range_of line k, range_of other k)

zipped : (f g : ℕ → Range ℕ) (ks : List ℕ) → zip (map f ks) (map g ks) ≡ map (λ k. (f k, g k)) ks
zipped f g [] = refl
zipped f g (k ∷ ks) = ap (λ (pairs : List (Range ℕ × Range ℕ)). (f k, g k) ∷ pairs) (zipped f g ks)

pub as_pairs : (line other : SegmentLine) → line.count ≡ other.count → pairs_of_lines line other ≡ map (pair_on line other) (range_with_len 0 line.count)
as_pairs line other as_many =
    ap (λ (n : ℕ). zip (ranges_of_line line) (map (range_of other) (range_with_len 0 n))) (sym as_many) ∙ zipped (range_of line) (range_of other) (range_with_len 0 line.count)

and_true : (b : Bool) → (b && true) ≡ b
and_true true = refl
and_true false = refl

abbrev Pair : Type 0
Pair = Range ℕ × Range ℕ

-- All pairs of a row pass a test exactly if the pair of each number does.
tested_row : (test : Pair → Bool) (pair : ℕ → Pair) (n : ℕ) → list_all test (map pair (range_with_len 0 n)) ≡ all_below (λ k. test (pair k)) n
tested_row test pair zero = refl
tested_row test pair (suc n) =
    let last : 0 + n ≡ n = omega arith in
    ap (λ (ks : List ℕ). list_all test (map pair ks)) (range_with_one_more 0 n ∙ ap (λ (k : ℕ). range_with_len 0 n ++ k ∷ []) last)
    ∙ ap (list_all test) (map-append pair (range_with_len 0 n) (n ∷ []))
    ∙ list_all-append test (map pair (range_with_len 0 n)) (pair n ∷ [])
    ∙ ap₂ (λ (a b : Bool). a && b) (tested_row test pair n) (and_true (test (pair n)))

all_alike : (p q : ℕ → Bool) → ((k : ℕ) → p k ≡ q k) → (n : ℕ) → all_below p n ≡ all_below q n
all_alike p q same zero = refl
all_alike p q same (suc n) = ap₂ (λ (a b : Bool). a && b) (all_alike p q same n) (same n)

row_tested : (test : Pair → Bool) (line other : SegmentLine) → line.count ≡ other.count → (same : ℕ → Bool) → ((k : ℕ) → test (pair_on line other k) ≡ same k)
    → all_below same line.count ≡ list_all test (pairs_of_lines line other)
row_tested test line other as_many same alike =
    sym (ap (list_all test) (as_pairs line other as_many) ∙ tested_row test (pair_on line other) line.count ∙ all_alike (λ k. test (pair_on line other k)) same alike line.count)

each_from : (P : Pair → Type 0) (pair : ℕ → Pair) (j n k : ℕ) → All P (map pair (range_with_len j n)) → k < n → P (pair (j + k))
each_from P pair j zero k all less = absurd (omega (arith, less))
each_from P pair j (suc n) zero all less =
    let here : j ≡ j + 0 = omega arith in subst (λ (i : ℕ). P (pair i)) here (All-head P (pair j) (map pair (range_with_len (j + 1) n)) all)
each_from P pair j (suc n) (suc k) all less =
    let there : (j + 1) + k ≡ j + suc k = omega arith in
    let fewer : k < n = omega (arith, less) in
    subst (λ (i : ℕ). P (pair i)) there (each_from P pair (j + 1) n k (All-tail P (pair j) (map pair (range_with_len (j + 1) n)) all) fewer)

pub pair_at : (P : Pair → Type 0) (line other : SegmentLine) → line.count ≡ other.count → All P (pairs_of_lines line other) → (k : ℕ) → k < line.count → P (pair_on line other k)
pair_at P line other as_many all k less =
    let here : 0 + k ≡ k = omega arith in
    subst (λ (i : ℕ). P (pair_on line other i)) here (each_from P (pair_on line other) 0 line.count k (subst (All P) (as_pairs line other as_many) all) less)

-- ---- rows that lie inside

abbrev Paired : ℕ → ℕ → Pair → Type 0
Paired room other_room pair = IsPart room pair.0 × IsPart other_room pair.1

pub row_inside : (line other : SegmentLine) (room other_room : ℕ) → IsLine line → line.count ≡ other.count → ArePaired room other_room (pairs_of_lines line other)
    → AreInside line.track.falls line.track.start line.track.step line.count line.size room
row_inside line other room other_room is as_many paired = record {
  low = is.low;
  high = λ some k less. (pair_at (Paired room other_room) line other as_many paired k less).0.inside;
}

pub other_row_inside : (line other : SegmentLine) (room other_room : ℕ) → IsLine other → line.count ≡ other.count → ArePaired room other_room (pairs_of_lines line other)
    → AreInside other.track.falls other.track.start other.track.step line.count other.size other_room
other_row_inside line other room other_room is as_many paired = record {
  low = λ k less. is.low k (let there : k < other.count = omega (arith, less, as_many) in there);
  high = λ some k less. (pair_at (Paired room other_room) line other as_many paired k less).1.inside;
}

pub with_size : (falls : Bool) (start step count size other_size room : ℕ) → size ≡ other_size → AreInside falls start step count other_size room → AreInside falls start step count size room
with_size falls start step count size other_size room same inside = subst (λ (n : ℕ). AreInside falls start step count n room) (sym same) inside

-- ---- the sizes of the ranges

pub as_wide : (line other : SegmentLine) → IsLine line → line.count ≡ other.count → AreAsLong (pairs_of_lines line other) → line.size ≡ other.size
as_wide line other is as_many long =
    let p : ℕ = places_on line 0 in
    let q : ℕ = places_on other 0 in
    let first : (p + line.size) - p ≡ (q + other.size) - q = pair_at (λ pair. pair.0.end - pair.0.start ≡ pair.1.end - pair.1.start) line other as_many long 0 is.some in
    omega (arith, first)

pub line_widths : (line other : SegmentLine) (size other_size : ℕ) → IsLine line → line.count ≡ other.count → HaveSizes size other_size (pairs_of_lines line other) → (line.size ≡ size) × (other.size ≡ other_size)
line_widths line other size other_size is as_many sizes =
    let p : ℕ = places_on line 0 in
    let q : ℕ = places_on other 0 in
    let both = pair_at (λ pair. (pair.0.end - pair.0.start ≡ size) × (pair.1.end - pair.1.start ≡ other_size)) line other as_many sizes 0 is.some in
    let one : (p + line.size) - p ≡ size = both.0 in
    let two : (q + other.size) - q ≡ other_size = both.1 in
    ((let same : line.size ≡ size = omega (arith, one) in same), (let same : other.size ≡ other_size = omega (arith, two) in same))

-- ---- rows that are compared

in_range : (bytes : List ℕ) (line : SegmentLine) (k : ℕ) → bytes_in bytes (range_of line k) ≡ piece bytes (places_on line) line.size k
in_range bytes line k =
    let whole : (places_on line k + line.size) - places_on line k ≡ line.size = omega arith in
    ap (λ (n : ℕ). take n (drop (places_on line k) bytes)) whole

pub rows_same : (bytes other : List ℕ) (line other_line : SegmentLine) → line.count ≡ other_line.count → line.size ≡ other_line.size
    → all_below (same_piece bytes (places_on line) other (places_on other_line) line.size) line.count ≡ same_ranges bytes other (pairs_of_lines line other_line)
rows_same bytes other line other_line as_many wide =
    row_tested (same_bytes_in bytes other) line other_line as_many (same_piece bytes (places_on line) other (places_on other_line) line.size)
    (λ k. ap₂ bytes_eq (in_range bytes line k) (in_range other other_line k ∙ ap (λ (n : ℕ). piece other (places_on other_line) n k) (sym wide)))

pub rows_of_numbers : (bytes other : List ℕ) (line other_line : SegmentLine) (signed other_signed : Bool) → line.count ≡ other_line.count
    → all_below (same_number bytes (places_on line) signed line.size other (places_on other_line) other_signed other_line.size) line.count ≡ same_numbers_of signed other_signed bytes other (pairs_of_lines line other_line)
rows_of_numbers bytes other line other_line signed other_signed as_many =
    row_tested (same_numbers_in signed other_signed bytes other) line other_line as_many (same_number bytes (places_on line) signed line.size other (places_on other_line) other_signed other_line.size)
    (λ k. ap₂ (λ (xs ys : List ℕ). int_eq (number false signed xs) (number false other_signed ys)) (in_range bytes line k) (in_range other other_line k))

-- ---- steps of the loops

abbrev Split : SegmentLine → SegmentLine → List Pair → List Pair → Type 0
Split line other pairs others = pairs ≡ pairs_of_lines line other ++ others

pub row_first : (P : Pair → Type 0) (line other : SegmentLine) (pairs others : List Pair) → Split line other pairs others → All P pairs → All P (pairs_of_lines line other)
row_first P line other pairs others same all = λ k d below.
    let row : List Pair = pairs_of_lines line other in
    let within : k < length (row ++ others) = omega (arith, below, length-append row others) in
    subst P (get_or_append_left row others d k below) (subst (All P) same all k d within)

pub rows_after : (P : Pair → Type 0) (line other : SegmentLine) (pairs others : List Pair) → Split line other pairs others → All P pairs → All P others
rows_after P line other pairs others same all = λ k d below.
    let row : List Pair = pairs_of_lines line other in
    let within : length row + k < length (row ++ others) = omega (arith, below, length-append row others) in
    subst P (get_or-append-add row others k d) (subst (All P) same all (length row + k) d within)

split_tested : (test : Pair → Bool) (line other : SegmentLine) (pairs others : List Pair) → Split line other pairs others → list_all test pairs ≡ (list_all test (pairs_of_lines line other) && list_all test others)
split_tested test line other pairs others same = ap (list_all test) same ∙ list_all-append test (pairs_of_lines line other) others

-- A row that passes is left behind.
pub row_passed : (test : Pair → Bool) (line other : SegmentLine) (pairs others : List Pair) (total : Bool) → Split line other pairs others
    → list_all test (pairs_of_lines line other) ≡ true → list_all test pairs ≡ total → list_all test others ≡ total
row_passed test line other pairs others total same passes so_far =
    sym (split_tested test line other pairs others same ∙ ap (λ (b : Bool). b && list_all test others) passes) ∙ so_far

-- A row that fails decides.
pub row_failed : (test : Pair → Bool) (line other : SegmentLine) (pairs others : List Pair) (total : Bool) → Split line other pairs others
    → list_all test (pairs_of_lines line other) ≡ false → list_all test pairs ≡ total → false ≡ total
row_failed test line other pairs others total same fails so_far =
    sym (split_tested test line other pairs others same ∙ ap (λ (b : Bool). b && list_all test others) fails) ∙ so_far

pub fewer_pairs : (line other : SegmentLine) (pairs others : List Pair) → IsLine line → line.count ≡ other.count → Split line other pairs others → length others < length pairs
fewer_pairs line other pairs others is as_many same =
    let long : length (pairs_of_lines line other) ≡ line.count = ap length (as_pairs line other as_many) ∙ length-map-range_with_len (pair_on line other) 0 line.count in
    let whole : length pairs ≡ length (pairs_of_lines line other) + length others = ap length same ∙ length-append (pairs_of_lines line other) others in
    omega (arith, long, whole, is.some)

-- ---- single pairs

pub single_inside : (range : Range ℕ) (room : ℕ) → IsPart room range → AreInside false range.start 0 1 (range.end - range.start) room
single_inside range room part = record {
  low = λ k less falls. absurd (true≢false (sym falls));
  high = λ some k less.
      let none : k * 0 ≡ 0 = mul-zero k in
      let whole : (range.start + k * 0) + (range.end - range.start) ≤ room = omega (arith, none, part.forward, part.inside) in whole;
}

pub single_same : (bytes other : List ℕ) (range other_range : Range ℕ) (signed other_signed : Bool)
    → all_below (same_number bytes (place_of false range.start 0) signed (range.end - range.start) other (place_of false other_range.start 0) other_signed (other_range.end - other_range.start)) 1
    ≡ same_numbers_in signed other_signed bytes other (range, other_range)
single_same bytes other range other_range signed other_signed =
    let here : range.start + 0 * 0 ≡ range.start = omega arith in
    let there : other_range.start + 0 * 0 ≡ other_range.start = omega arith in
    ap₂ (λ (p q : ℕ). int_eq (number false signed (take (range.end - range.start) (drop p bytes))) (number false other_signed (take (other_range.end - other_range.start) (drop q other)))) here there

-- ---- items without bytes

pub none_differ : (bytes other : List ℕ) (place other_place : ℕ → ℕ) (size n : ℕ) → size ≡ 0 → true ≡ all_below (same_piece bytes place other other_place size) n
none_differ bytes other place other_place size zero none = refl
none_differ bytes other place other_place size (suc n) none =
    ap₂ (λ (a b : Bool). a && b) (none_differ bytes other place other_place size n none)
    (sym (ap (λ (k : ℕ). bytes_eq (take k (drop (place n) bytes)) (take k (drop (other_place n) other))) none))

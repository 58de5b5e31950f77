-- Two views, walked side by side.
use Rattle.std.proofs.Common.{◌≡◌, ℕ, zero, suc, ◌+◌, ◌*◌, ◌-◌, ◌≤◌, ℤ, pos, Bool, true, false, List, [], ◌∷◌, length, map, take, drop, ap, ap₂, sym, ◌∙◌, refl, subst, arith}
use Rattle.std.specs.Prelude.{All, bytes_eq, min, ◌==◌, ◌&&◌, if◌then◌else◌}
use Rattle.std.specs.List.{flat_map, list_all}
use Rattle.std.proofs.Math.Nat.{min-le_left, min-le_right}
use Rattle.std.specs.declared.ops.Range.{Range}
use Rattle.std.proofs.lemmas.Bool.{eqb-true}
use Rattle.std.proofs.lemmas.List.Elements.{All-head, All-tail, All-nil, All-cons}
use Rattle.std.proofs.lemmas.List.{length-map, length-take-le, length-drop, take_all, drop_all}
use Rattle.pybuf_lemmas.proofs.Booleans.{false_if_never_true}
use Rattle.pybuf_desc.specs.Facts.{forward_ranges, width, row_width, range_widths, whole_bytes}
use Rattle.pybuf_value.specs.declared.values.Item.{Item}
use Rattle.pybuf_value.specs.declared.values.Item.TheVariants as item
use Rattle.pybuf_value.specs.declared.values.Scalar.TheVariants as scalar
use Rattle.pybuf_value.specs.Equality.{same_item}
use Rattle.pybuf_struct.specs.Digits.{number}
use Rattle.pybuf_desc.specs.Descriptor.{Descriptor, shape_of}
use Rattle.pybuf_desc.specs.Tails.{tail_of}
use Rattle.pybuf_desc.specs.Segments.{range_at, ranges_of, bytes_in}
use Rattle.pybuf_desc.specs.Pairs.{joined_count_of_both}
use Rattle.pybuf_desc.specs.Layouts.{Layout, LiesInside, HasItemsOfItsShape, product}
use Rattle.pybuf_desc.specs.Items.{bytes_at, content_of_layout}
use Rattle.pybuf_desc.specs.Places.{places, Stands}
use Rattle.pybuf_desc.specs.Valid.{IsPlaced}
use Rattle.pybuf_desc.specs.Laws.{RangesStayInside, RangesHaveTheContent}
use Rattle.pybuf_memoryview.specs.Items.{item_by}
use Rattle.pybuf_memoryview.specs.Readers.{read_by}
use Rattle.pybuf_memoryview.specs.Lists.{items_of_layout}
use Rattle.pybuf_memoryview.specs.declared.readers.ItemReader.{ItemReader}
use Rattle.pybuf_equality.specs.Equality.{same_items}
use Rattle.pybuf_equality.specs.Reading.{ReadsAs, ReadsAsNumber}
use Rattle.pybuf_equality.specs.Walks.{IsPart, ArePaired, AreAsLong, HaveSizes, same_bytes_in, same_ranges, same_items_of, same_numbers_of}
use Rattle.pybuf_equality.proofs.Bools.{bytes_both}
use Rattle.pybuf_equality.proofs.Apart.{items_from}

abbrev pub firsts : List (Range ℕ × Range ℕ) → List (Range ℕ)
firsts pairs = map (λ pair. pair.0) pairs

abbrev pub seconds : List (Range ℕ × Range ℕ) → List (Range ℕ)
seconds pairs = map (λ pair. pair.1) pairs

-- ---- both sides join as many dimensions, which both tails have

least_left : (b : Bool) (m n : ℕ) → (if b then min m n else 0) ≤ m
least_left true m n = min-le_left m n
least_left false m n = omega arith

least_right : (b : Bool) (m n : ℕ) → (if b then min m n else 0) ≤ n
least_right true m n = min-le_right m n
least_right false m n = omega arith

pub joined_of_one : (d o : Descriptor) → joined_count_of_both d o true ≤ tail_of d
joined_of_one d o = least_left (d.itemsize == o.itemsize) (tail_of d) (tail_of o)

pub joined_of_other : (d o : Descriptor) → joined_count_of_both d o true ≤ tail_of o
joined_of_other d o = least_right (d.itemsize == o.itemsize) (tail_of d) (tail_of o)

-- ---- ranges that lie inside

are_parts : (room : ℕ) (ranges : List (Range ℕ)) → All (λ (range : Range ℕ). range.start ≤ range.end) ranges → All (λ (range : Range ℕ). range.end ≤ room) ranges → All (IsPart room) ranges
are_parts room ranges forward inside = λ k d below. record { forward = forward k d below; inside = inside k d below }

pair_up : (P Q : Range ℕ → Type 0) (pairs : List (Range ℕ × Range ℕ)) → All P (firsts pairs) → All Q (seconds pairs) → All (λ pair. P pair.0 × Q pair.1) pairs
pair_up P Q [] one other = All-nil (λ (pair : Range ℕ × Range ℕ). P pair.0 × Q pair.1)
pair_up P Q (pair ∷ pairs) one other =
    All-cons (λ (p : Range ℕ × Range ℕ). P p.0 × Q p.1) pair pairs
    (All-head P pair.0 (firsts pairs) one, All-head Q pair.1 (seconds pairs) other)
    (pair_up P Q pairs (All-tail P pair.0 (firsts pairs) one) (All-tail Q pair.1 (seconds pairs) other))

pub are_paired : (d o : Descriptor) (start other_start : ℤ) (joined other_joined room other_room : ℕ) (pairs : List (Range ℕ × Range ℕ))
    → firsts pairs ≡ ranges_of d start joined → seconds pairs ≡ ranges_of o other_start other_joined
    → All (λ (range : Range ℕ). range.end ≤ room) (ranges_of d start joined) → All (λ (range : Range ℕ). range.end ≤ other_room) (ranges_of o other_start other_joined)
    → ArePaired room other_room pairs
are_paired d o start other_start joined other_joined room other_room pairs is other_is inside other_inside =
    pair_up (IsPart room) (IsPart other_room) pairs
    (subst (All (IsPart room)) (sym is) (are_parts room (ranges_of d start joined) (forward_ranges d start joined) inside))
    (subst (All (IsPart other_room)) (sym other_is) (are_parts other_room (ranges_of o other_start other_joined) (forward_ranges o other_start other_joined) other_inside))

-- ---- ranges that are equally long

pub ranges_alike : (d o : Descriptor) (start other_start : ℤ) (joined : ℕ) (pairs : List (Range ℕ × Range ℕ)) → shape_of d.dims ≡ shape_of o.dims → d.itemsize ≡ o.itemsize
    → firsts pairs ≡ ranges_of d start joined → seconds pairs ≡ ranges_of o other_start joined
    → (w : ℕ) × All (λ range. width range ≡ w) (firsts pairs) × All (λ range. width range ≡ w) (seconds pairs)
ranges_alike d o start other_start joined pairs same_shape same_size is other_is =
    let w : ℕ = row_width d.itemsize joined (shape_of d.dims) in
    let same : row_width o.itemsize joined (shape_of o.dims) ≡ w = ap₂ (λ (size : ℕ) (shape : List ℕ). row_width size joined shape) (sym same_size) (sym same_shape) in (
      w,
      subst (All (λ range. width range ≡ w)) (sym is) (range_widths d start joined),
      subst (All (λ range. width range ≡ w)) (sym other_is) (subst (λ (k : ℕ). All (λ range. width range ≡ k) (ranges_of o other_start joined)) same (range_widths o other_start joined)),
    )

-- The ranges of each pair are equally long if all ranges on both sides are.
pub pairs_as_long : (w : ℕ) (pairs : List (Range ℕ × Range ℕ)) → All (λ range. width range ≡ w) (firsts pairs) → All (λ range. width range ≡ w) (seconds pairs) → AreAsLong pairs
pairs_as_long w pairs one other = λ k d below. let both = pair_up (λ range. width range ≡ w) (λ range. width range ≡ w) pairs one other k d below in both.0 ∙ sym both.1

-- ---- bytes, range by range

length_in : (bytes : List ℕ) (range : Range ℕ) → IsPart (length bytes) range → length (bytes_in bytes range) ≡ width range
length_in bytes range part =
    length-take-le (range.end - range.start) (drop range.start bytes)
    (let fits : range.end - range.start ≤ length (drop range.start bytes) = omega (arith, part.forward, part.inside, length-drop range.start bytes) in fits)

pub ranges_compared : (bytes other : List ℕ) (w : ℕ) (pairs : List (Range ℕ × Range ℕ)) → ArePaired (length bytes) (length other) pairs → All (λ range. width range ≡ w) (firsts pairs) → All (λ range. width range ≡ w) (seconds pairs)
    → same_ranges bytes other pairs ≡ bytes_eq (flat_map (λ range. bytes_in bytes range) (firsts pairs)) (flat_map (λ range. bytes_in other range) (seconds pairs))
ranges_compared bytes other w [] are one two = refl
ranges_compared bytes other w (pair ∷ pairs) are one two =
    let here = All-head (λ (p : Range ℕ × Range ℕ). IsPart (length bytes) p.0 × IsPart (length other) p.1) pair pairs are in
    let long = length_in bytes pair.0 here.0 ∙ All-head (λ range. width range ≡ w) pair.0 (firsts pairs) one in
    let other_long = length_in other pair.1 here.1 ∙ All-head (λ range. width range ≡ w) pair.1 (seconds pairs) two in
    ap (λ (t : Bool). same_bytes_in bytes other pair && t)
    (ranges_compared bytes other w pairs (All-tail (λ (p : Range ℕ × Range ℕ). IsPart (length bytes) p.0 × IsPart (length other) p.1) pair pairs are)
    (All-tail (λ range. width range ≡ w) pair.0 (firsts pairs) one) (All-tail (λ range. width range ≡ w) pair.1 (seconds pairs) two))
    ∙ sym (bytes_both (bytes_in bytes pair.0) (flat_map (λ range. bytes_in bytes range) (firsts pairs)) (bytes_in other pair.1) (flat_map (λ range. bytes_in other range) (seconds pairs)) (long ∙ sym other_long))

-- ---- items, one by one

-- The bytes of an item's size are read as the text of a format says, in whatever way the code reads them.
abbrev pub IsReading : (List ℕ → Item) → List ℕ → ℕ → Type 0
IsReading read format size = (bytes : List ℕ) → length bytes ≡ size → read bytes ≡ item_by format bytes

abbrev pub same_read_in : (List ℕ → Item) → (List ℕ → Item) → List ℕ → List ℕ → Range ℕ × Range ℕ → Bool
same_read_in r s bytes other pair = same_item (r (bytes_in bytes pair.0)) (s (bytes_in other pair.1))

items_compared : (r s : List ℕ → Item) (bytes other : List ℕ) (pairs : List (Range ℕ × Range ℕ))
    → list_all (same_read_in r s bytes other) pairs ≡ same_items (map (λ range. r (bytes_in bytes range)) (firsts pairs)) (map (λ range. s (bytes_in other range)) (seconds pairs))
items_compared r s bytes other [] = refl
items_compared r s bytes other (pair ∷ pairs) = ap (λ (t : Bool). same_read_in r s bytes other pair && t) (items_compared r s bytes other pairs)

chosen_ranges : (n : ℕ) (ranges : List (Range ℕ)) → length ranges ≡ n → (if n == 0 then [] else ranges) ≡ ranges
chosen_ranges zero [] long = refl
chosen_ranges zero (range ∷ ranges) long = absurd (omega (arith, long))
chosen_ranges (suc n) ranges long =
    ap (λ (t : Bool). if t then [] else ranges) (false_if_never_true (suc n == 0) (λ e. let same : suc n ≡ 0 = eqb-true (suc n) 0 e in absurd (omega (arith, same))))

at_places : (size : ℕ) (starts : List ℕ) → map (range_at size) (map (λ x. pos x) starts) ≡ map (λ s. range_at size (pos s)) starts
at_places size [] = refl
at_places size (s ∷ starts) = ap (λ (ranges : List (Range ℕ)). range_at size (pos s) ∷ ranges) (at_places size starts)

-- If no rows are joined, there is a range for each item.
single_ranges : (d : Descriptor) (start : ℕ) (layout : Layout) → Stands d start layout → HasItemsOfItsShape layout → ranges_of d (pos start) 0 ≡ map (λ s. range_at d.itemsize (pos s)) layout.starts
single_ranges d start layout stands counted =
    let n : ℕ = length d.dims - 0 in
    let all : length d.dims ≤ n = omega arith in
    let size : product (shape_of (drop n d.dims)) * d.itemsize ≡ d.itemsize =
    ap (λ (dims : List (ℕ × ℤ × ℤ)). product (shape_of dims) * d.itemsize) (drop_all n d.dims all) ∙ (let one : 1 * d.itemsize ≡ d.itemsize = omega arith in one) in
    let found : map (range_at (product (shape_of (drop n d.dims)) * d.itemsize)) (places (take n d.dims) (pos start)) ≡ map (λ s. range_at d.itemsize (pos s)) layout.starts =
    ap₂ (λ (k : ℕ) (ps : List ℤ). map (range_at k) ps) size (ap (λ (dims : List (ℕ × ℤ × ℤ)). places dims (pos start)) (take_all n d.dims all) ∙ stands.starts) ∙ at_places d.itemsize layout.starts in
    let long : length (map (λ s. range_at d.itemsize (pos s)) layout.starts) ≡ product (shape_of d.dims) =
    length-map layout.starts (λ s. range_at d.itemsize (pos s)) ∙ counted ∙ ap product (sym stands.shape) in
    ap (λ (ranges : List (Range ℕ)). if product (shape_of d.dims) == 0 then [] else ranges) found
    ∙ chosen_ranges (product (shape_of d.dims)) (map (λ s. range_at d.itemsize (pos s)) layout.starts) long

ranges_read : (r : List ℕ → Item) (text : List ℕ) (size : ℕ) (bytes starts : List ℕ) → IsReading r text size → All (λ start. start + size ≤ length bytes) starts
    → map (λ range. r (bytes_in bytes range)) (map (λ s. range_at size (pos s)) starts) ≡ items_from text bytes size starts
ranges_read r text size bytes [] reads inside = refl
ranges_read r text size bytes (s ∷ starts) reads inside =
    let long = whole_bytes bytes size s (All-head (λ x. x + size ≤ length bytes) s starts inside) in
    let whole : (s + size) - s ≡ size = omega arith in
    ap₂ (λ (item : Item) (items : List Item). item ∷ items)
    (ap (λ (n : ℕ). r (take n (drop s bytes))) whole ∙ reads (bytes_at bytes size s) long)
    (ranges_read r text size bytes starts reads (All-tail (λ x. x + size ≤ length bytes) s starts inside))

layout_read : (d : Descriptor) (start : ℕ) (layout : Layout) (r : List ℕ → Item) (bytes : List ℕ) (ranges : List (Range ℕ)) → Stands d start layout → HasItemsOfItsShape layout → IsReading r layout.format layout.itemsize → LiesInside (length bytes) layout
    → ranges ≡ ranges_of d (pos start) 0 → map (λ range. r (bytes_in bytes range)) ranges ≡ items_of_layout bytes layout
layout_read d start layout r bytes ranges stands counted reads inside is =
    ap (map (λ range. r (bytes_in bytes range)))
    (is ∙ single_ranges d start layout stands counted ∙ ap (λ (size : ℕ). map (λ s. range_at size (pos s)) layout.starts) stands.itemsize)
    ∙ ranges_read r layout.format layout.itemsize bytes layout.starts reads inside

read_walked : (d o : Descriptor) (start other_start : ℕ) (layout other_layout : Layout) (r s : List ℕ → Item) (bytes other : List ℕ) (pairs : List (Range ℕ × Range ℕ))
    → Stands d start layout → Stands o other_start other_layout → HasItemsOfItsShape layout → HasItemsOfItsShape other_layout
    → IsReading r layout.format layout.itemsize → IsReading s other_layout.format other_layout.itemsize → LiesInside (length bytes) layout → LiesInside (length other) other_layout
    → firsts pairs ≡ ranges_of d (pos start) 0 → seconds pairs ≡ ranges_of o (pos other_start) 0
    → list_all (same_read_in r s bytes other) pairs ≡ same_items (items_of_layout bytes layout) (items_of_layout other other_layout)
read_walked d o start other_start layout other_layout r s bytes other pairs stands other_stands counted other_counted reads other_reads inside other_inside is other_is =
    items_compared r s bytes other pairs
    ∙ ap₂ same_items (layout_read d start layout r bytes (firsts pairs) stands counted reads inside is) (layout_read o other_start other_layout s other (seconds pairs) other_stands other_counted other_reads other_inside other_is)

pub items_walked : (d o : Descriptor) (start other_start : ℕ) (layout other_layout : Layout) (r s : ItemReader) (bytes other : List ℕ) (pairs : List (Range ℕ × Range ℕ))
    → Stands d start layout → Stands o other_start other_layout → HasItemsOfItsShape layout → HasItemsOfItsShape other_layout
    → ReadsAs r layout.format layout.itemsize → ReadsAs s other_layout.format other_layout.itemsize → LiesInside (length bytes) layout → LiesInside (length other) other_layout
    → firsts pairs ≡ ranges_of d (pos start) 0 → seconds pairs ≡ ranges_of o (pos other_start) 0
    → same_items_of r s bytes other pairs ≡ same_items (items_of_layout bytes layout) (items_of_layout other other_layout)
items_walked d o start other_start layout other_layout r s bytes other pairs = read_walked d o start other_start layout other_layout (read_by r) (read_by s) bytes other pairs

-- ---- numbers

abbrev number_item : Bool → List ℕ → Item
number_item signed bytes = item.One (scalar.Int (number false signed bytes))

pub numbers_walked : (d o : Descriptor) (start other_start : ℕ) (layout other_layout : Layout) (signed other_signed : Bool) (bytes other : List ℕ) (pairs : List (Range ℕ × Range ℕ))
    → Stands d start layout → Stands o other_start other_layout → HasItemsOfItsShape layout → HasItemsOfItsShape other_layout
    → ReadsAsNumber signed layout.format layout.itemsize → ReadsAsNumber other_signed other_layout.format other_layout.itemsize → LiesInside (length bytes) layout → LiesInside (length other) other_layout
    → firsts pairs ≡ ranges_of d (pos start) 0 → seconds pairs ≡ ranges_of o (pos other_start) 0
    → same_numbers_of signed other_signed bytes other pairs ≡ same_items (items_of_layout bytes layout) (items_of_layout other other_layout)
numbers_walked d o start other_start layout other_layout signed other_signed bytes other pairs stands other_stands counted other_counted reads other_reads =
    read_walked d o start other_start layout other_layout (number_item signed) (number_item other_signed) bytes other pairs stands other_stands counted other_counted (λ xs long. sym (reads xs long)) (λ xs long. sym (other_reads xs long))

single_widths : (size : ℕ) (starts : List ℕ) → All (λ range. width range ≡ size) (map (λ s. range_at size (pos s)) starts)
single_widths size [] = All-nil (λ (range : Range ℕ). width range ≡ size)
single_widths size (s ∷ starts) =
    All-cons (λ (range : Range ℕ). width range ≡ size) (range_at size (pos s)) (map (λ x. range_at size (pos x)) starts) (let same : (s + size) - s ≡ size = omega arith in same) (single_widths size starts)

item_widths : (d : Descriptor) (start : ℕ) (layout : Layout) (ranges : List (Range ℕ)) → Stands d start layout → HasItemsOfItsShape layout → ranges ≡ ranges_of d (pos start) 0
    → All (λ range. width range ≡ layout.itemsize) ranges
item_widths d start layout ranges stands counted is =
    subst (λ (size : ℕ). All (λ range. width range ≡ size) ranges) stands.itemsize
    (subst (All (λ range. width range ≡ d.itemsize)) (sym (is ∙ single_ranges d start layout stands counted)) (single_widths d.itemsize layout.starts))

pub numbers_sized : (d o : Descriptor) (start other_start : ℕ) (layout other_layout : Layout) (pairs : List (Range ℕ × Range ℕ))
    → Stands d start layout → Stands o other_start other_layout → HasItemsOfItsShape layout → HasItemsOfItsShape other_layout
    → firsts pairs ≡ ranges_of d (pos start) 0 → seconds pairs ≡ ranges_of o (pos other_start) 0 → HaveSizes layout.itemsize other_layout.itemsize pairs
numbers_sized d o start other_start layout other_layout pairs stands other_stands counted other_counted is other_is =
    pair_up (λ range. width range ≡ layout.itemsize) (λ range. width range ≡ other_layout.itemsize) pairs
    (item_widths d start layout (firsts pairs) stands counted is) (item_widths o other_start other_layout (seconds pairs) other_stands other_counted other_is)

-- ---- steps of the loops

pub first_pair : (P : Range ℕ × Range ℕ → Type 0) (pair : Range ℕ × Range ℕ) (pairs rest : List (Range ℕ × Range ℕ)) → pairs ≡ pair ∷ rest → All P pairs → P pair
first_pair P pair pairs rest same all = All-head P pair rest (subst (All P) same all)

pub other_pairs : (P : Range ℕ × Range ℕ → Type 0) (pair : Range ℕ × Range ℕ) (pairs rest : List (Range ℕ × Range ℕ)) → pairs ≡ pair ∷ rest → All P pairs → All P rest
other_pairs P pair pairs rest same all = All-tail P pair rest (subst (All P) same all)

-- ---- rows

gathered : RangesHaveTheContent → (d : Descriptor) (start : ℕ) (layout : Layout) (bytes : List ℕ) (joined : ℕ) (ranges : List (Range ℕ)) → IsPlaced d start → joined ≤ tail_of d → Stands d start layout
    → ranges ≡ ranges_of d (pos start) joined → flat_map (λ range. bytes_in bytes range) ranges ≡ content_of_layout bytes layout
gathered law d start layout bytes joined ranges placed few stands is =
    ap (flat_map (λ (range : Range ℕ). bytes_in bytes range)) is ∙ law d start joined layout bytes placed few stands

-- Two views have a descriptor and a start each. They have one shape, and items of one size.
pub record AreWalked (d o : Descriptor) (start other_start : ℕ) (layout other_layout : Layout) (bytes other : List ℕ) : Type 0 where
  pub placed : IsPlaced d start
  pub other_placed : IsPlaced o other_start
  pub stands : Stands d start layout
  pub other_stands : Stands o other_start other_layout
  pub inside : LiesInside (length bytes) layout
  pub other_inside : LiesInside (length other) other_layout

pub rows_paired : RangesStayInside → (d o : Descriptor) (start other_start : ℕ) (layout other_layout : Layout) (bytes other : List ℕ) (pairs : List (Range ℕ × Range ℕ)) → AreWalked d o start other_start layout other_layout bytes other
    → firsts pairs ≡ ranges_of d (pos start) (joined_count_of_both d o true) → seconds pairs ≡ ranges_of o (pos other_start) (joined_count_of_both d o true) → ArePaired (length bytes) (length other) pairs
rows_paired stays d o start other_start layout other_layout bytes other pairs are is other_is =
    let joined : ℕ = joined_count_of_both d o true in
    are_paired d o (pos start) (pos other_start) joined joined (length bytes) (length other) pairs is other_is
    (stays d start joined layout (length bytes) are.placed (joined_of_one d o) are.stands are.inside)
    (stays o other_start joined other_layout (length other) are.other_placed (joined_of_other d o) are.other_stands are.other_inside)

pub rows_as_long : (d o : Descriptor) (start other_start : ℕ) (layout other_layout : Layout) (pairs : List (Range ℕ × Range ℕ)) → Stands d start layout → Stands o other_start other_layout
    → layout.shape ≡ other_layout.shape → layout.itemsize ≡ other_layout.itemsize
    → firsts pairs ≡ ranges_of d (pos start) (joined_count_of_both d o true) → seconds pairs ≡ ranges_of o (pos other_start) (joined_count_of_both d o true) → AreAsLong pairs
rows_as_long d o start other_start layout other_layout pairs stands other_stands shape size is other_is =
    let alike = ranges_alike d o (pos start) (pos other_start) (joined_count_of_both d o true) pairs (stands.shape ∙ shape ∙ sym other_stands.shape) (stands.itemsize ∙ size ∙ sym other_stands.itemsize) is other_is in
    pairs_as_long alike.0 pairs alike.1 alike.2

pub items_paired : RangesStayInside → (d o : Descriptor) (start other_start : ℕ) (layout other_layout : Layout) (bytes other : List ℕ) (pairs : List (Range ℕ × Range ℕ)) → AreWalked d o start other_start layout other_layout bytes other
    → firsts pairs ≡ ranges_of d (pos start) 0 → seconds pairs ≡ ranges_of o (pos other_start) 0 → ArePaired (length bytes) (length other) pairs
items_paired stays d o start other_start layout other_layout bytes other pairs are is other_is =
    are_paired d o (pos start) (pos other_start) 0 0 (length bytes) (length other) pairs is other_is
    (stays d start 0 layout (length bytes) are.placed (omega arith) are.stands are.inside)
    (stays o other_start 0 other_layout (length other) are.other_placed (omega arith) are.other_stands are.other_inside)

pub rows_compared : RangesStayInside → RangesHaveTheContent → (d o : Descriptor) (start other_start : ℕ) (layout other_layout : Layout) (bytes other : List ℕ) (pairs : List (Range ℕ × Range ℕ)) → AreWalked d o start other_start layout other_layout bytes other
    → layout.shape ≡ other_layout.shape → layout.itemsize ≡ other_layout.itemsize
    → firsts pairs ≡ ranges_of d (pos start) (joined_count_of_both d o true) → seconds pairs ≡ ranges_of o (pos other_start) (joined_count_of_both d o true)
    → same_ranges bytes other pairs ≡ bytes_eq (content_of_layout bytes layout) (content_of_layout other other_layout)
rows_compared stays whole d o start other_start layout other_layout bytes other pairs are shape size is other_is =
    let joined : ℕ = joined_count_of_both d o true in
    let alike = ranges_alike d o (pos start) (pos other_start) joined pairs (are.stands.shape ∙ shape ∙ sym are.other_stands.shape) (are.stands.itemsize ∙ size ∙ sym are.other_stands.itemsize) is other_is in
    ranges_compared bytes other alike.0 pairs (rows_paired stays d o start other_start layout other_layout bytes other pairs are is other_is) alike.1 alike.2
    ∙ ap₂ bytes_eq (gathered whole d start layout bytes joined (firsts pairs) are.placed (joined_of_one d o) are.stands is)
    (gathered whole o other_start other_layout other joined (seconds pairs) are.other_placed (joined_of_other d o) are.other_stands other_is)

-- What a walk keeps that appends its ranges.
use Rattle.std.proofs.Common.{◌≡◌, ℕ, zero, suc, ◌+◌, ◌*◌, ◌<◌, ◌≤◌, List, ◌++◌, length, take, drop, le_refl, arith, append_assoc, ap, ap₂, sym, subst, ◌∙◌}
use Rattle.std.specs.Prelude.{All, pos, true}
use Rattle.std.specs.declared.ops.Range.{Range}
use Rattle.std.specs.List.{flat_map}
use Rattle.std.proofs.lemmas.Grind.{flat_map-append}
use Rattle.std.proofs.lemmas.List.{length-append, get_or_append_left, get_or-append-add}
use Rattle.std.proofs.lemmas.List.FromFn.{get_or-map-range_with_len}
use Rattle.pybuf_lemmas.proofs.Lists.{length_of_piece}
use Rattle.pybuf_desc.specs.Facts.{length-line}
use Rattle.pybuf_strided.specs.Apart.{place_of, AreInside, pieces_at}
use Rattle.pybuf_desc.specs.declared.line.SegmentLine.{SegmentLine}
use Rattle.pybuf_desc.specs.SegmentLines.{ranges_of_line, range_on, IsLine}
use Rattle.pybuf_desc.specs.Layouts.{Layout, HasItemsOfItsShape, LiesInside, product}
use Rattle.pybuf_desc.specs.Descriptor.{Descriptor}
use Rattle.pybuf_desc.specs.Places.{Stands}
use Rattle.pybuf_desc.specs.Valid.{IsValid, IsPlaced}
use Rattle.pybuf_desc.specs.Segments.{bytes_in, ranges_of, joined_count}
use Rattle.pybuf_desc.specs.Laws.{RangesHaveTheContent, LinesHaveTheirPieces}
use Rattle.pybuf_memoryview.specs.Laws.{ContentsAreWhole}

-- No range ends before it begins.
abbrev pub AreInOrder : List (Range ℕ) → Type 0
AreInOrder ranges = All (λ (range : Range ℕ). range.start ≤ range.end) ranges

abbrev pub EndInside : ℕ → List (Range ℕ) → Type 0
EndInside room ranges = All (λ (range : Range ℕ). range.end ≤ room) ranges

bytes_split : (bytes : List ℕ) (first ranges others : List (Range ℕ)) → ranges ≡ first ++ others
    → flat_map (bytes_in bytes) ranges ≡ flat_map (bytes_in bytes) first ++ flat_map (bytes_in bytes) others
bytes_split bytes first ranges others same = ap (flat_map (bytes_in bytes)) same ∙ flat_map-append (bytes_in bytes) first others

counted : (bytes : List ℕ) (first ranges others : List (Range ℕ)) → ranges ≡ first ++ others
    → length (flat_map (bytes_in bytes) ranges) ≡ length (flat_map (bytes_in bytes) first) + length (flat_map (bytes_in bytes) others)
counted bytes first ranges others same = ap length (bytes_split bytes first ranges others same) ∙ length-append (flat_map (bytes_in bytes) first) (flat_map (bytes_in bytes) others)

pub first_fits : (bytes : List ℕ) (first ranges others : List (Range ℕ)) (len cap : ℕ) → ranges ≡ first ++ others
    → len + length (flat_map (bytes_in bytes) ranges) ≤ cap → len + length (flat_map (bytes_in bytes) first) ≤ cap
first_fits bytes first ranges others len cap same fits = omega (arith, fits, counted bytes first ranges others same)

pub others_fit : (bytes : List ℕ) (first ranges others : List (Range ℕ)) (len cap more room : ℕ) → ranges ≡ first ++ others
    → len + length (flat_map (bytes_in bytes) ranges) ≤ cap → more ≡ len + length (flat_map (bytes_in bytes) first) → cap ≤ room → more + length (flat_map (bytes_in bytes) others) ≤ room
others_fit bytes first ranges others len cap more room same fits grown kept = omega (arith, fits, grown, kept, counted bytes first ranges others same)

pub first_inside : (room : ℕ) (first ranges others : List (Range ℕ)) → ranges ≡ first ++ others → EndInside room ranges → EndInside room first
first_inside room first ranges others same all = λ k d below.
    let here : EndInside room (first ++ others) = subst (EndInside room) same all in
    let within : k < length (first ++ others) = omega (arith, below, length-append first others) in
    subst (λ (range : Range ℕ). range.end ≤ room) (get_or_append_left first others d k below) (here k d within)

pub others_inside : (room : ℕ) (first ranges others : List (Range ℕ)) → ranges ≡ first ++ others → EndInside room ranges → EndInside room others
others_inside room first ranges others same all = λ k d below.
    let here : EndInside room (first ++ others) = subst (EndInside room) same all in
    let within : length first + k < length (first ++ others) = omega (arith, below, length-append first others) in
    subst (λ (range : Range ℕ). range.end ≤ room) (get_or-append-add first others k d) (here (length first + k) d within)

pub appended : (bytes old new total : List ℕ) (first ranges others : List (Range ℕ)) → ranges ≡ first ++ others → new ≡ old ++ flat_map (bytes_in bytes) first
    → old ++ flat_map (bytes_in bytes) ranges ≡ total → new ++ flat_map (bytes_in bytes) others ≡ total
appended bytes old new total first ranges others same grown so_far =
    ap (λ (xs : List ℕ). xs ++ flat_map (bytes_in bytes) others) grown ∙ append_assoc old (flat_map (bytes_in bytes) first) (flat_map (bytes_in bytes) others)
    ∙ ap (λ (xs : List ℕ). old ++ xs) (sym (bytes_split bytes first ranges others same)) ∙ so_far

-- ---- a line

pub steps_more : (line : SegmentLine) (ranges others : List (Range ℕ)) (old new total : ℕ) → ranges ≡ ranges_of_line line ++ others → new ≡ old + line.count → old + length ranges ≡ total → new + length others ≡ total
steps_more line ranges others old new total same grown so_far =
    let long : length ranges ≡ line.count + length others = ap length same ∙ length-append (ranges_of_line line) others ∙ ap (λ (n : ℕ). n + length others) (length-line line) in
    omega (arith, grown, so_far, long)

no_range : Range ℕ
no_range = record { start = 0; end = 0 }

pub items_inside : (line : SegmentLine) (room : ℕ) → IsLine line → EndInside room (ranges_of_line line) → AreInside line.track.falls line.track.start line.track.step line.count line.size room
items_inside line room is all =
    let range : ℕ → Range ℕ = range_on line.track.falls line.track.start line.track.step line.size in
    record {
      low = is.low;
      high = λ some k less. (
          let within : k < length (ranges_of_line line) = omega (arith, less, length-line line) in
          let at : 0 + k ≡ k = omega arith in
          subst (λ (r : Range ℕ). r.end ≤ room) (get_or-map-range_with_len range 0 line.count k k no_range less at) (all k no_range within)
          );
    }

length-pieces : (source : List ℕ) (from : ℕ → ℕ) (size n : ℕ) → (0 < size → (k : ℕ) → k < n → from k + size ≤ length source) → length (pieces_at source from size n) ≡ size * n
length-pieces source from size zero all = let none : 0 ≡ size * 0 = grind arith in none
length-pieces source from size (suc n) all =
    let whole : size * n + size ≡ size * suc n = grind arith in
    length-append (pieces_at source from size n) (take size (drop (from n) source))
    ∙ ap₂ (λ (x y : ℕ). x + y) (length-pieces source from size n (λ some k less. all some k (let more : k < suc n = omega (arith, less) in more)))
    (length_of_piece source (from n) size (λ some. all some n (let last : n < suc n = omega arith in last))) ∙ whole

-- There are as many bytes as the items of the line have.
pub line_long : LinesHaveTheirPieces → (line : SegmentLine) (bytes : List ℕ) → AreInside line.track.falls line.track.start line.track.step line.count line.size (length bytes)
    → length (flat_map (bytes_in bytes) (ranges_of_line line)) ≡ line.size * line.count
line_long law line bytes inside = ap length (law line bytes) ∙ length-pieces bytes (place_of line.track.falls line.track.start line.track.step) line.size line.count inside.high

-- The ranges of the walk have as many bytes as the descriptor says.
pub walk_long : RangesHaveTheContent → ContentsAreWhole → (d : Descriptor) (start : ℕ) (layout : Layout) (bytes : List ℕ) → IsPlaced d start → IsValid d start (length bytes) → Stands d start layout → HasItemsOfItsShape layout → LiesInside (length bytes) layout
    → length (flat_map (bytes_in bytes) (ranges_of d (pos start) (joined_count d true))) ≡ d.len
walk_long content whole d start layout bytes placed valid stands items inside =
    ap length (content d start (joined_count d true) layout bytes placed (le_refl (joined_count d true)) stands) ∙ whole bytes layout inside ∙ ap (λ (n : ℕ). layout.itemsize * n) items
    ∙ ap₂ (λ (size : ℕ) (shape : List ℕ). size * product shape) (sym stands.itemsize) (sym stands.shape) ∙ valid.len

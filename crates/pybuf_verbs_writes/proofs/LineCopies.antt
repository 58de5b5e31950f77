-- Lines of items that are copied.
use Rattle.std.proofs.Common.{◌≡◌, ℕ, zero, suc, ◌+◌, ◌-◌, ◌*◌, ◌<◌, ◌≤◌, Bool, false, List, [], ◌∷◌, ◌++◌, length, map, take, drop, ap, ap₂, sym, ◌∙◌, refl, subst, arith}
use Rattle.std.specs.Prelude.{All, set}
use Rattle.std.specs.List.{flat_map, range_with_len, zip}
use Rattle.std.specs.declared.ops.Range.{Range}
use Rattle.std.proofs.Math.Nat.{zero-mul}
use Rattle.std.proofs.Math.Seq.{take-add}
use Rattle.std.proofs.lemmas.Grind.{common_steps, flat_map-append}
use Rattle.std.proofs.lemmas.List.{length-append, length-map, length-take-le, length-drop, append-nil, map-append, drop-drop, take-append-drop}
use Rattle.std.proofs.lemmas.List.Elements.{All-head}
use Rattle.std.proofs.lemmas.List.FromFn.{length-range_with_len}
use Rattle.pybuf_lemmas.proofs.Lists.{length_of_piece, all_left, all_right}
use Rattle.pybuf_lemmas.proofs.Numbers.{range_with_one_more, positive_has_predecessor}
use Rattle.pybuf_desc.specs.Facts.{Inside, bytes_split, length-line as length-ranges}
use Rattle.pybuf_slice.specs.Facts.{run_of_bytes, elements_both}
use Rattle.pybuf_slice.specs.Reads.{elements_at}
use Rattle.pybuf_strided.specs.Apart.{place_of, AreInside, with_piece, moved_at, pieces_at}
use Rattle.pybuf_desc.specs.declared.line.SegmentLine.{SegmentLine}
use Rattle.pybuf_desc.specs.Segments.{bytes_of, bytes_in}
use Rattle.pybuf_desc.specs.SegmentLines.{ranges_of_line, range_on, IsLine}
use Rattle.pybuf_desc.specs.Laws.{LinesHaveTheirPieces}
use Rattle.pybuf_verbs_writes.specs.Laid.{bytes_with}
use Rattle.pybuf_verbs_writes.specs.LaidBytes.{put_at}
use Rattle.pybuf_verbs_writes.proofs.Laying.{put_run, put_both, bytes_with_none}
use Rattle.pybuf_verbs_writes.proofs.Pairs.{firsts, seconds, IsStep}

-- ---- a copy of items writes their bytes

abbrev pub Lie : List ℕ → (ℕ → ℕ) → ℕ → ℕ → Type 0
Lie bytes place size n = 0 < size → (k : ℕ) → k < n → place k + size ≤ length bytes

fewer : (bytes : List ℕ) (place : ℕ → ℕ) (size n : ℕ) → Lie bytes place size (suc n) → Lie bytes place size n
fewer bytes place size n all = λ some k less. all some k (let more : k < suc n = omega (arith, less) in more)

the_last : (bytes : List ℕ) (place : ℕ → ℕ) (size n : ℕ) → Lie bytes place size (suc n) → 0 < size → place n + size ≤ length bytes
the_last bytes place size n all some = all some n (let last : n < suc n = omega arith in last)

pub length-pieces : (source : List ℕ) (from : ℕ → ℕ) (size n : ℕ) → Lie source from size n → length (pieces_at source from size n) ≡ n * size
length-pieces source from size zero all = sym (zero-mul size)
length-pieces source from size (suc n) all =
    let whole : n * size + size ≡ suc n * size = grind arith in
    length-append (pieces_at source from size n) (take size (drop (from n) source))
    ∙ ap₂ (λ (x y : ℕ). x + y) (length-pieces source from size n (fewer source from size n all)) (length_of_piece source (from n) size (the_last source from size n all)) ∙ whole

pub length-put : (bytes places content : List ℕ) → length (put_at bytes places content) ≡ length bytes
length-put bytes [] content = refl
length-put bytes (place ∷ places) [] = refl
length-put bytes (place ∷ places) (b ∷ content) =
    let same : length (set bytes place b) ≡ length bytes = grind (arith, common_steps) in
    length-put (set bytes place b) places content ∙ same

put_piece : (bytes : List ℕ) (place size : ℕ) (piece : List ℕ) → length piece ≡ size → (0 < size → place + size ≤ length bytes) → bytes_with bytes place piece ≡ put_at bytes (range_with_len place size) piece
put_piece bytes place zero [] long inside = bytes_with_none bytes place
put_piece bytes place zero (b ∷ piece) long inside = absurd (omega (arith, long))
put_piece bytes place (suc size) piece long inside =
    let room : place + suc size ≤ length bytes = inside (let some : 0 < suc size = omega arith in some) in
    sym (ap (λ (n : ℕ). put_at bytes (range_with_len place n) piece) (sym long) ∙ put_run bytes place piece (let fits : place + length piece ≤ length bytes = omega (arith, room, long) in fits))

-- the bytes of ranges that have one size, at these places
abbrev pub places_to : (ℕ → ℕ) → ℕ → ℕ → List ℕ
places_to to size n = flat_map bytes_of (map (λ k. record { start = to k; end = to k + size }) (range_with_len 0 n))

places_more : (to : ℕ → ℕ) (size n : ℕ) → places_to to size (suc n) ≡ places_to to size n ++ range_with_len (to n) size
places_more to size n =
    let range : ℕ → Range ℕ = λ k. record { start = to k; end = to k + size } in
    let last : 0 + n ≡ n = omega arith in
    let whole : (to n + size) - to n ≡ size = omega arith in
    ap (λ (ks : List ℕ). flat_map bytes_of (map range ks)) (range_with_one_more 0 n ∙ ap (λ (k : ℕ). range_with_len 0 n ++ k ∷ []) last)
    ∙ ap (flat_map bytes_of) (map-append range (range_with_len 0 n) (n ∷ []))
    ∙ flat_map-append bytes_of (map range (range_with_len 0 n)) (range n ∷ [])
    ∙ ap (λ (xs : List ℕ). places_to to size n ++ xs) (append-nil (bytes_of (range n)) ∙ ap (range_with_len (to n)) whole)

length-places : (to : ℕ → ℕ) (size n : ℕ) → length (places_to to size n) ≡ n * size
length-places to size zero = sym (zero-mul size)
length-places to size (suc n) =
    let whole : n * size + size ≡ suc n * size = grind arith in
    ap length (places_more to size n) ∙ length-append (places_to to size n) (range_with_len (to n) size)
    ∙ ap₂ (λ (x y : ℕ). x + y) (length-places to size n) (length-range_with_len (to n) size) ∙ whole

pub moved_is_put : (bytes : List ℕ) (to : ℕ → ℕ) (source : List ℕ) (from : ℕ → ℕ) (size n : ℕ) → Lie bytes to size n → Lie source from size n
    → moved_at bytes to source from size n ≡ put_at bytes (places_to to size n) (pieces_at source from size n)
moved_is_put bytes to source from size zero here there = refl
moved_is_put bytes to source from size (suc n) here there =
    let piece : List ℕ = take size (drop (from n) source) in
    let now : List ℕ = put_at bytes (places_to to size n) (pieces_at source from size n) in
    let long : length piece ≡ size = length_of_piece source (from n) size (the_last source from size n there) in
    let room : 0 < size → to n + size ≤ length now = λ some. (let was = the_last bytes to size n here some in omega (arith, was, length-put bytes (places_to to size n) (pieces_at source from size n))) in
    ap (λ (bs : List ℕ). with_piece bs (to n) piece) (moved_is_put bytes to source from size n (fewer bytes to size n here) (fewer source from size n there))
    ∙ put_piece now (to n) size piece long room
    ∙ sym (put_both bytes (places_to to size n) (range_with_len (to n) size) (pieces_at source from size n) piece
    (length-places to size n ∙ sym (length-pieces source from size n (fewer source from size n there))))
    ∙ ap (λ (ps : List ℕ). put_at bytes ps (pieces_at source from size (suc n))) (sym (places_more to size n))

pub line_put : (bytes source : List ℕ) (line : SegmentLine) (falls : Bool) (start step : ℕ) → AreInside line.track.falls line.track.start line.track.step line.count line.size (length bytes)
    → AreInside falls start step line.count line.size (length source)
    → moved_at bytes (place_of line.track.falls line.track.start line.track.step) source (place_of falls start step) line.size line.count
    ≡ put_at bytes (flat_map bytes_of (ranges_of_line line)) (pieces_at source (place_of falls start step) line.size line.count)
line_put bytes source line falls start step here there =
    moved_is_put bytes (place_of line.track.falls line.track.start line.track.step) source (place_of falls start step) line.size line.count here.high there.high

pub length-line : (line : SegmentLine) → length (flat_map bytes_of (ranges_of_line line)) ≡ line.count * line.size
length-line line = length-places (place_of line.track.falls line.track.start line.track.step) line.size line.count

-- ---- from bytes that lie one after the other

pub row_pieces : (content : List ℕ) (from size n : ℕ) → pieces_at content (place_of false from size) size n ≡ take (n * size) (drop from content)
row_pieces content from size zero = let none : 0 ≡ 0 * size = sym (zero-mul size) in ap (λ (k : ℕ). take k (drop from content)) none
row_pieces content from size (suc n) =
    let whole : n * size + size ≡ suc n * size = grind arith in
    ap₂ (λ (xs ys : List ℕ). xs ++ ys) (row_pieces content from size n) (ap (take size) (sym (drop-drop (n * size) from content)))
    ∙ sym (take-add (n * size) size (drop from content)) ∙ ap (λ (k : ℕ). take k (drop from content)) whole

-- ---- the first of many ranges, and the others

pub others_inside : (bytes more : List ℕ) (first ranges others : List (Range ℕ)) → length more ≡ length bytes → ranges ≡ first ++ others → Inside bytes ranges → Inside more others
others_inside bytes more first ranges others long same all =
    subst (λ (n : ℕ). All (λ (place : ℕ). place < n) (flat_map bytes_of others)) (sym long)
    (all_right (λ (place : ℕ). place < length bytes) (flat_map bytes_of first) (flat_map bytes_of others) (subst (All (λ (place : ℕ). place < length bytes)) (bytes_split first ranges others same) all))

pub bytes_counted : (line : SegmentLine) (ranges others : List (Range ℕ)) → ranges ≡ ranges_of_line line ++ others → length (flat_map bytes_of ranges) ≡ line.count * line.size + length (flat_map bytes_of others)
bytes_counted line ranges others same =
    ap length (bytes_split (ranges_of_line line) ranges others same) ∙ length-append (flat_map bytes_of (ranges_of_line line)) (flat_map bytes_of others)
    ∙ ap (λ (n : ℕ). n + length (flat_map bytes_of others)) (length-line line)

pub line_laid : (bytes more content total : List ℕ) (from next : ℕ) (line : SegmentLine) (ranges others : List (Range ℕ)) → ranges ≡ ranges_of_line line ++ others → next ≡ from + line.count * line.size
    → more ≡ put_at bytes (flat_map bytes_of (ranges_of_line line)) (take (line.count * line.size) (drop from content)) → from + length (flat_map bytes_of ranges) ≡ length content
    → put_at bytes (flat_map bytes_of ranges) (drop from content) ≡ total → put_at more (flat_map bytes_of others) (drop next content) ≡ total
line_laid bytes more content total from next line ranges others same step copied as_many so_far =
    let n : ℕ = line.count * line.size in
    let enough : n ≤ length (drop from content) = omega (arith, as_many, bytes_counted line ranges others same, length-drop from content) in
    let rest : drop next content ≡ drop n (drop from content) = ap (λ (k : ℕ). drop k content) step ∙ sym (drop-drop n from content) in
    ap₂ (λ (bs cs : List ℕ). put_at bs (flat_map bytes_of others) cs) copied rest
    ∙ sym (put_both bytes (flat_map bytes_of (ranges_of_line line)) (flat_map bytes_of others) (take n (drop from content)) (drop n (drop from content)) (length-line line ∙ sym (length-take-le n (drop from content) enough)))
    ∙ ap₂ (λ (ps cs : List ℕ). put_at bytes ps cs) (sym (bytes_split (ranges_of_line line) ranges others same)) (take-append-drop n (drop from content))
    ∙ so_far

-- ---- pair by pair

elements_by_range : (bytes : List ℕ) (ranges : List (Range ℕ)) → elements_at bytes (flat_map bytes_of ranges) ≡ flat_map (bytes_in bytes) ranges
elements_by_range bytes [] = refl
elements_by_range bytes (range ∷ ranges) =
    elements_both bytes (bytes_of range) (flat_map bytes_of ranges)
    ∙ ap₂ (λ (xs ys : List ℕ). xs ++ ys) (run_of_bytes bytes range.start (range.end - range.start)) (elements_by_range bytes ranges)

-- the bytes at the ranges of a line
pub line_elements : LinesHaveTheirPieces → (bytes : List ℕ) (line : SegmentLine)
    → elements_at bytes (flat_map bytes_of (ranges_of_line line)) ≡ pieces_at bytes (place_of line.track.falls line.track.start line.track.step) line.size line.count
line_elements law bytes line = elements_by_range bytes (ranges_of_line line) ∙ law line bytes

first_zipped : (xs ys : List (Range ℕ)) → length xs ≡ length ys → firsts (zip xs ys) ≡ xs
first_zipped [] [] long = refl
first_zipped [] (y ∷ ys) long = absurd (omega (arith, long))
first_zipped (x ∷ xs) [] long = absurd (omega (arith, long))
first_zipped (x ∷ xs) (y ∷ ys) long = ap (λ zs. x ∷ zs) (first_zipped xs ys (let fewer : length xs ≡ length ys = omega (arith, long) in fewer))

second_zipped : (xs ys : List (Range ℕ)) → length xs ≡ length ys → seconds (zip xs ys) ≡ ys
second_zipped [] [] long = refl
second_zipped [] (y ∷ ys) long = absurd (omega (arith, long))
second_zipped (x ∷ xs) [] long = absurd (omega (arith, long))
second_zipped (x ∷ xs) (y ∷ ys) long = ap (λ zs. y ∷ zs) (second_zipped xs ys (let fewer : length xs ≡ length ys = omega (arith, long) in fewer))

as_many_ranges : (line lender : SegmentLine) → line.count ≡ lender.count → length (ranges_of_line line) ≡ length (ranges_of_line lender)
as_many_ranges line lender as_many = length-ranges line ∙ as_many ∙ sym (length-ranges lender)

pub firsts_split : (line lender : SegmentLine) (pairs others : List (Range ℕ × Range ℕ)) → line.count ≡ lender.count → pairs ≡ zip (ranges_of_line line) (ranges_of_line lender) ++ others
    → firsts pairs ≡ ranges_of_line line ++ firsts others
firsts_split line lender pairs others as_many same =
    ap firsts same ∙ map-append (λ (pair : Range ℕ × Range ℕ). pair.0) (zip (ranges_of_line line) (ranges_of_line lender)) others
    ∙ ap (λ xs. xs ++ firsts others) (first_zipped (ranges_of_line line) (ranges_of_line lender) (as_many_ranges line lender as_many))

pub seconds_split : (line lender : SegmentLine) (pairs others : List (Range ℕ × Range ℕ)) → line.count ≡ lender.count → pairs ≡ zip (ranges_of_line line) (ranges_of_line lender) ++ others
    → seconds pairs ≡ ranges_of_line lender ++ seconds others
seconds_split line lender pairs others as_many same =
    ap seconds same ∙ map-append (λ (pair : Range ℕ × Range ℕ). pair.1) (zip (ranges_of_line line) (ranges_of_line lender)) others
    ∙ ap (λ xs. xs ++ seconds others) (second_zipped (ranges_of_line line) (ranges_of_line lender) (as_many_ranges line lender as_many))

abbrev pub Alike : List (Range ℕ × Range ℕ) → Type 0
Alike pairs = All (λ (pair : Range ℕ × Range ℕ). pair.0.end - pair.0.start ≡ pair.1.end - pair.1.start) pairs

heads_alike : (line lender : SegmentLine) (m n : ℕ) → line.count ≡ suc m → lender.count ≡ suc n → Alike (zip (ranges_of_line line) (ranges_of_line lender)) → line.size ≡ lender.size
heads_alike line lender m n some many alike =
    let p : ℕ = place_of line.track.falls line.track.start line.track.step 0 in
    let q : ℕ = place_of lender.track.falls lender.track.start lender.track.step 0 in
    let one : ℕ → Range ℕ = range_on line.track.falls line.track.start line.track.step line.size in
    let other : ℕ → Range ℕ = range_on lender.track.falls lender.track.start lender.track.step lender.size in
    let both : Alike (zip (map one (range_with_len 0 (suc m))) (map other (range_with_len 0 (suc n)))) =
    subst (λ (k : ℕ). Alike (zip (map one (range_with_len 0 (suc m))) (map other (range_with_len 0 k)))) many
    (subst (λ (k : ℕ). Alike (zip (map one (range_with_len 0 k)) (map other (range_with_len 0 lender.count)))) some alike) in
    let first : (p + line.size) - p ≡ (q + lender.size) - q =
    All-head (λ (pair : Range ℕ × Range ℕ). pair.0.end - pair.0.start ≡ pair.1.end - pair.1.start) (one 0, other 0) (zip (map one (range_with_len 1 m)) (map other (range_with_len 1 n))) both in
    omega (arith, first)

pub as_wide : (line lender : SegmentLine) (pairs others : List (Range ℕ × Range ℕ)) → IsLine line → IsLine lender → pairs ≡ zip (ranges_of_line line) (ranges_of_line lender) ++ others → Alike pairs
    → line.size ≡ lender.size
as_wide line lender pairs others is lends same alike =
    heads_alike line lender (line.count - 1) (lender.count - 1) (positive_has_predecessor line.count is.some) (positive_has_predecessor lender.count lends.some)
    (all_left (λ (pair : Range ℕ × Range ℕ). pair.0.end - pair.0.start ≡ pair.1.end - pair.1.start) (zip (ranges_of_line line) (ranges_of_line lender)) others (subst Alike same alike))

pub fewer_pairs : (line lender : SegmentLine) (pairs others : List (Range ℕ × Range ℕ)) → IsLine line → line.count ≡ lender.count → pairs ≡ zip (ranges_of_line line) (ranges_of_line lender) ++ others
    → length others < length pairs
fewer_pairs line lender pairs others is as_many same =
    let long : length pairs ≡ line.count + length others =
    sym (length-map pairs (λ (pair : Range ℕ × Range ℕ). pair.0)) ∙ ap length (firsts_split line lender pairs others as_many same)
    ∙ length-append (ranges_of_line line) (firsts others) ∙ ap₂ (λ (x y : ℕ). x + y) (length-ranges line) (length-map others (λ (pair : Range ℕ × Range ℕ). pair.0)) in
    omega (arith, long, is.some)

pub pairs_laid : (bytes more source total : List ℕ) (line lender : SegmentLine) (pairs others : List (Range ℕ × Range ℕ)) → line.count ≡ lender.count
    → pairs ≡ zip (ranges_of_line line) (ranges_of_line lender) ++ others
    → more ≡ put_at bytes (flat_map bytes_of (ranges_of_line line)) (elements_at source (flat_map bytes_of (ranges_of_line lender))) → length more ≡ length bytes
    → length (flat_map bytes_of (ranges_of_line line)) ≡ length (elements_at source (flat_map bytes_of (ranges_of_line lender)))
    → Inside bytes (firsts pairs) → Inside source (seconds pairs) → Alike pairs
    → put_at bytes (flat_map bytes_of (firsts pairs)) (elements_at source (flat_map bytes_of (seconds pairs))) ≡ total → IsStep more source total others
pairs_laid bytes more source total line lender pairs others as_many same copied long whole inside source_inside alike so_far =
    let here : firsts pairs ≡ ranges_of_line line ++ firsts others = firsts_split line lender pairs others as_many same in
    let there : seconds pairs ≡ ranges_of_line lender ++ seconds others = seconds_split line lender pairs others as_many same in
    record {
      laid =
          ap (λ (bs : List ℕ). put_at bs (flat_map bytes_of (firsts others)) (elements_at source (flat_map bytes_of (seconds others)))) copied
          ∙ sym (put_both bytes (flat_map bytes_of (ranges_of_line line)) (flat_map bytes_of (firsts others)) (elements_at source (flat_map bytes_of (ranges_of_line lender))) (elements_at source (flat_map bytes_of (seconds others))) whole)
          ∙ ap₂ (λ (ps cs : List ℕ). put_at bytes ps cs) (sym (bytes_split (ranges_of_line line) (firsts pairs) (firsts others) here))
          (sym (ap (elements_at source) (bytes_split (ranges_of_line lender) (seconds pairs) (seconds others) there) ∙ elements_both source (flat_map bytes_of (ranges_of_line lender)) (flat_map bytes_of (seconds others))))
          ∙ so_far;
      inside = others_inside bytes more (ranges_of_line line) (firsts pairs) (firsts others) long here inside;
      source_inside = others_inside source source (ranges_of_line lender) (seconds pairs) (seconds others) refl there source_inside;
      alike = all_right (λ (pair : Range ℕ × Range ℕ). pair.0.end - pair.0.start ≡ pair.1.end - pair.1.start) (zip (ranges_of_line line) (ranges_of_line lender)) others (subst Alike same alike);
    }

-- ---- a line that lends its bytes to another

pub lends_inside : (line lender : SegmentLine) (room : ℕ) → line.count ≡ lender.count → line.size ≡ lender.size
    → AreInside lender.track.falls lender.track.start lender.track.step lender.count lender.size room → AreInside lender.track.falls lender.track.start lender.track.step line.count line.size room
lends_inside line lender room as_many as_wide inside =
    subst (λ (n : ℕ). AreInside lender.track.falls lender.track.start lender.track.step n line.size room) (sym as_many)
    (subst (λ (n : ℕ). AreInside lender.track.falls lender.track.start lender.track.step lender.count n room) (sym as_wide) inside)

pub lent_pieces : LinesHaveTheirPieces → (source : List ℕ) (line lender : SegmentLine) → line.count ≡ lender.count → line.size ≡ lender.size
    → pieces_at source (place_of lender.track.falls lender.track.start lender.track.step) line.size line.count ≡ elements_at source (flat_map bytes_of (ranges_of_line lender))
lent_pieces law source line lender as_many as_wide =
    ap₂ (λ (size n : ℕ). pieces_at source (place_of lender.track.falls lender.track.start lender.track.step) size n) as_wide as_many ∙ sym (line_elements law source lender)

pub lent_whole : LinesHaveTheirPieces → (source : List ℕ) (line lender : SegmentLine) → line.count ≡ lender.count → line.size ≡ lender.size
    → AreInside lender.track.falls lender.track.start lender.track.step lender.count lender.size (length source)
    → length (flat_map bytes_of (ranges_of_line line)) ≡ length (elements_at source (flat_map bytes_of (ranges_of_line lender)))
lent_whole law source line lender as_many as_wide inside =
    length-line line ∙ ap₂ (λ (n size : ℕ). n * size) as_many as_wide
    ∙ sym (length-pieces source (place_of lender.track.falls lender.track.start lender.track.step) lender.size lender.count inside.high)
    ∙ ap length (sym (line_elements law source lender))

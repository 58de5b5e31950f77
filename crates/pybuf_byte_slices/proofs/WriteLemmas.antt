-- Bytes that are set at the indices of a slice, by a loop over the places of the slice's run.
use Rattle.std.proofs.Common.{◌≡◌, ◌≢◌, ℕ, zero, suc, ◌+◌, ◌-◌, ◌*◌, ◌<◌, ◌≤◌, Bool, true, false, true≢false, List, [], ◌∷◌, ◌++◌, length, take, drop, reverse, get_or, refl, ap, ap₂, sym, ◌∙◌, subst, arith, inl, inr, ℤ, pos, nat_abs, w64, to_z, of_z, take_all, take-suc, mul-le-mul_right, length-append, length-take, length-set}
use Rattle.std.specs.Prelude.{All, slice_set, int_lt, if◌then◌else◌}
use Rattle.std.proofs.Math.Nat.{suc-mul}
use Rattle.std.proofs.Math.Seq.{get_or-append_seam}
use Rattle.std.proofs.lemmas.Bool.{cases_lt}
use Rattle.std.proofs.lemmas.Grind.{common_steps}
use Rattle.std.proofs.lemmas.Int.{to_z-of_z}
use Rattle.std.proofs.lemmas.List.{reverse-append, get_or_append_left}
use Rattle.std.proofs.lemmas.List.Elements.{All-head}
use Rattle.pybuf_index.specs.Facts.{rising_push, greatest_first, run_length, negative_is}
use Rattle.pybuf_strided.specs.Apart.{place_of, AreInside, with_piece, moved_at}
use Rattle.pybuf_index.specs.Picks.{is_negative}
use Rattle.pybuf_index.specs.Parts.{SliceParts, IsSaturated, picks_of}
use Rattle.pybuf_index.specs.Runs.{rising, run_of, run_low, how_many, picks_in_span}
use Rattle.pybuf_index.specs.Laws.{EachSpan, SpanPicksAre}
use Rattle.pybuf_slice.specs.Edits.{set_at}

-- ---- the first places, in order

abbrev pub places : (ℕ → ℕ) → ℕ → List ℕ
places to zero = []
places to (suc n) = places to n ++ to n ∷ []

length_places : (to : ℕ → ℕ) (n : ℕ) → length (places to n) ≡ n
length_places to zero = refl
length_places to (suc n) =
    let more : n + 1 ≡ suc n = omega arith in
    length-append (places to n) (to n ∷ []) ∙ ap (λ (k : ℕ). k + 1) (length_places to n) ∙ more

place_at : (to : ℕ → ℕ) (n k d : ℕ) → k < n → get_or (places to n) k d ≡ to k
place_at to zero k d less = absurd (omega (arith, less))
place_at to (suc n) k d less =
    elim (cases_lt k n) [
      | inl before ↦ get_or_append_left (places to n) (to n ∷ []) d k (omega (arith, before, length_places to n)) ∙ place_at to n k d before
      | inr last ↦
          let same : k ≡ length (places to n) = omega (arith, last, less, length_places to n) in
          let here : k ≡ n = omega (arith, last, less) in
          ap (λ (i : ℕ). get_or (places to (suc n)) i d) same ∙ get_or-append_seam (places to n) (to n) [] d ∙ ap to (sym here)
    ]

-- ---- one more byte is set

set_push : (indices bytes others : List ℕ) (i x : ℕ) → length indices ≡ length others → set_at bytes (indices ++ i ∷ []) (others ++ x ∷ []) ≡ slice_set (set_at bytes indices others) i x
set_push [] bytes [] i x same = refl
set_push [] bytes (y ∷ others) i x same = absurd (omega (arith, same))
set_push (k ∷ indices) bytes [] i x same = absurd (omega (arith, same))
set_push (k ∷ indices) bytes (y ∷ others) i x same = set_push indices (slice_set bytes k y) others i x (omega (arith, same))

length_set_at : (indices bytes others : List ℕ) → length (set_at bytes indices others) ≡ length bytes
length_set_at [] bytes others = refl
length_set_at (i ∷ indices) bytes [] = refl
length_set_at (i ∷ indices) bytes (x ∷ others) = length_set_at indices (slice_set bytes i x) others ∙ length-set bytes i x

one_piece : (bytes : List ℕ) (at x : ℕ) → at < length bytes → with_piece bytes at (x ∷ []) ≡ slice_set bytes at x
one_piece [] at x inside = absurd (omega (arith, inside))
one_piece (b ∷ bytes) zero x inside = refl
one_piece (b ∷ bytes) (suc at) x inside =
    let next : suc at + 1 ≡ suc (at + 1) = omega arith in
    ap (λ (k : ℕ). (take (suc at) (b ∷ bytes) ++ x ∷ []) ++ drop k (b ∷ bytes)) next ∙ ap (λ (xs : List ℕ). b ∷ xs) (one_piece bytes at x (omega (arith, inside)))

one_byte : (source : List ℕ) (n : ℕ) → n < length source → take 1 (drop (place_of false 0 1 n) source) ≡ get_or source n 0 ∷ []
one_byte source n inside =
    let same : 0 + n * 1 ≡ n = omega arith in
    ap (λ (k : ℕ). take 1 (drop k source)) same ∙ grind (arith, common_steps, inside)

-- Bytes that are moved one by one are set at their places.
moved_are_set : (bytes source : List ℕ) (to : ℕ → ℕ) (n : ℕ) → n ≤ length source → ((k : ℕ) → k < n → to k < length bytes)
    → moved_at bytes to source (place_of false 0 1) 1 n ≡ set_at bytes (places to n) (take n source)
moved_are_set bytes source to zero many inside = refl
moved_are_set bytes source to (suc n) many inside =
    let x : ℕ = get_or source n 0 in
    let now : List ℕ = set_at bytes (places to n) (take n source) in
    let some : n < length source = omega (arith, many) in
    let here : to n < length now = omega (arith, inside n (omega arith), length_set_at (places to n) bytes (take n source)) in
    let long : length (places to n) ≡ length (take n source) = omega (arith, length_places to n, length-take n source, many) in
    ap₂ (λ (xs piece : List ℕ). with_piece xs (to n) piece)
    (moved_are_set bytes source to n (omega (arith, many)) (λ k less. inside k (omega (arith, less))))
    (one_byte source n some)
    ∙ one_piece now (to n) x here
    ∙ sym (ap (set_at bytes (places to (suc n))) (take-suc source n 0 some) ∙ set_push (places to n) bytes (take n source) (to n) x long)

-- ---- runs are places

rising_are : (n low s : ℕ) → rising low s n ≡ places (place_of false low s) n
rising_are zero low s = refl
rising_are (suc n) low s = rising_push n low s ∙ ap (λ (xs : List ℕ). xs ++ (low + n * s) ∷ []) (rising_are n low s)

falling_are : (n low s top : ℕ) → top + s ≡ low + n * s → reverse (rising low s n) ≡ places (place_of true top s) n
falling_are zero low s top is = refl
falling_are (suc n) low s top is =
    let more : suc n * s ≡ n * s + s = suc-mul n s in
    let last : low ≡ top - n * s = omega (arith, is, more) in
    let rest : top + s ≡ low + s + n * s = omega (arith, is, more) in
    reverse-append (low ∷ []) (rising (low + s) s n)
    ∙ ap₂ (λ (xs : List ℕ) (i : ℕ). xs ++ i ∷ []) (falling_are n (low + s) s top rest) last

-- ---- the indices of a span are places in it

-- The indices are `count` places one stride apart, and each is below a bound.
pub record IsWalk (high : ℕ) (falls : Bool) (start stride count : ℕ) (indices : List ℕ) : Type 0 where
  pub are : indices ≡ places (place_of falls start stride) count
  pub low : (k : ℕ) → k < count → falls ≡ true → k * stride ≤ start
  pub below : (k : ℕ) → k < count → place_of falls start stride k < high

-- the place where the walk begins
abbrev pub first_of : Bool → ℕ → ℕ → ℕ
first_of falls low high = if falls then high - 1 else low

each_below : (low high : ℕ) (to : ℕ → ℕ) (n : ℕ) (indices : List ℕ) → indices ≡ places to n → All (λ i. (low ≤ i) × (i < high)) indices → (k : ℕ) → k < n → to k < high
each_below low high to n indices are within k less =
    let many : k < length indices = omega (arith, less, ap length are, length_places to n) in
    let here : get_or indices k 0 ≡ to k = ap (λ (xs : List ℕ). get_or xs k 0) are ∙ place_at to n k 0 less in
    omega (arith, (within k 0 many).1, here)

run_is_walk : (falls : Bool) (low high s n : ℕ) (indices : List ℕ) → indices ≡ run_of falls (run_low falls low high s n) s n → All (λ i. (low ≤ i) × (i < high)) indices
    → IsWalk high falls (first_of falls low high) s n indices
run_is_walk false low high s n indices run within =
    let are : indices ≡ places (place_of false low s) n = run ∙ rising_are n low s in
    record {
      are = are;
      low = λ k less is. absurd (true≢false (sym is));
      below = each_below low high (place_of false low s) n indices are within;
    }
run_is_walk true low high s zero indices run within = record {
  are = run;
  low = λ k less is. absurd (omega (arith, less));
  below = λ k less. absurd (omega (arith, less));
}
run_is_walk true low high s (suc n) indices run within =
    let one : suc n - 1 ≡ n = omega arith in
    let least : ℕ = high - 1 - n * s in
    let from : indices ≡ reverse (rising least s (suc n)) = run ∙ ap (λ (m : ℕ). reverse (rising (high - 1 - m * s) s (suc n))) one in
    let first : least + n * s < high =
    (All-head (λ i. (low ≤ i) × (i < high)) (least + n * s) (reverse (rising least s n)) (subst (λ (xs : List ℕ). All (λ i. (low ≤ i) × (i < high)) xs) (from ∙ greatest_first n least s) within)).1 in
    let more : suc n * s ≡ n * s + s = suc-mul n s in
    let top : high - 1 + s ≡ least + suc n * s = omega (arith, first, more) in
    let are : indices ≡ places (place_of true (high - 1) s) (suc n) = from ∙ falling_are (suc n) least s (high - 1) top in
    record {
      are = are;
      low = λ k less is. let up : k * s ≤ n * s = mul-le-mul_right s (omega (arith, less)) in omega (arith, up, first);
      below = each_below low high (place_of true (high - 1) s) (suc n) indices are within;
    }

span_is_walk : (spans : EachSpan SpanPicksAre) (low high : ℕ) (step : ℤ) (n : ℕ) → step ≢ pos 0 → n ≡ length (picks_in_span low high step)
    → IsWalk high (is_negative step) (first_of (is_negative step) low high) (nat_abs step) n (picks_in_span low high step)
span_is_walk spans low high step n moves many =
    let span = spans low high step moves in
    let falls : Bool = is_negative step in
    let s : ℕ = nat_abs step in
    let m : ℕ = how_many low high s in
    let count : m ≡ n = sym (many ∙ ap length span.run ∙ run_length falls (run_low falls low high s m) s m) in
    run_is_walk falls low high s n (picks_in_span low high step) (span.run ∙ ap (λ (k : ℕ). run_of falls (run_low falls low high s k) s k) count) span.within

-- the same walk, by the start, the stride and the direction that are given
same_walk : (high : ℕ) (f falls : Bool) (first start s stride n : ℕ) (indices : List ℕ) → falls ≡ f → start ≡ first → stride ≡ s → IsWalk high f first s n indices
    → IsWalk high falls start stride n indices
same_walk high f falls first start s stride n indices way at by walk =
    subst (λ (b : Bool). IsWalk high b start stride n indices) (sym way)
    (subst (λ (i : ℕ). IsWalk high f i stride n indices) (sym at)
    (subst (λ (t : ℕ). IsWalk high f first t n indices) (sym by) walk))

-- ---- what the code asks for and answers

-- The indices of a slice go on from the start that was computed, by its stride and in its direction.
pub slice_is_walk : (spans : EachSpan SpanPicksAre) (parts : SliceParts) (room low high : ℕ) (step : ℤ) (n start stride : ℕ)
    → IsSaturated parts → step ≡ parts.step → n ≡ length (picks_of room parts) → picks_in_span low high step ≡ picks_of room parts
    → start ≡ first_of (int_lt (to_z w64 (of_z w64 step)) (pos 0)) low high → stride ≡ nat_abs (to_z w64 (of_z w64 step))
    → IsWalk high (int_lt (to_z w64 (of_z w64 step)) (pos 0)) start stride n (picks_of room parts)
slice_is_walk spans parts room low high step n start stride fits is many same at by =
    let coded : to_z w64 (of_z w64 step) ≡ step =
    ap (λ (z : ℤ). to_z w64 (of_z w64 z)) is ∙ to_z-of_z w64 parts.step fits.step ∙ sym is in
    let way : int_lt (to_z w64 (of_z w64 step)) (pos 0) ≡ is_negative step = ap (λ (z : ℤ). int_lt z (pos 0)) coded ∙ negative_is step in
    let walk = span_is_walk spans low high step n (λ none. fits.moves (sym is ∙ none)) (many ∙ ap (λ (xs : List ℕ). length xs) (sym same)) in
    subst (λ (xs : List ℕ). IsWalk high (int_lt (to_z w64 (of_z w64 step)) (pos 0)) start stride n xs) same
    (same_walk high (is_negative step) (int_lt (to_z w64 (of_z w64 step)) (pos 0)) (first_of (is_negative step) low high) start (nat_abs step) stride n (picks_in_span low high step)
    way (at ∙ ap (λ (b : Bool). first_of b low high) way) (by ∙ ap nat_abs coded) walk)

pub are_inside : (high room : ℕ) (falls : Bool) (start stride n : ℕ) (indices : List ℕ) → IsWalk high falls start stride n indices → high ≤ room → AreInside falls start stride n 1 room
are_inside high room falls start stride n indices walk inside = record {
  low = walk.low;
  high = λ some k less. omega (arith, walk.below k less, inside);
}

-- Bytes that are moved along the walk are set at the indices.
pub moved_is_set : (bytes source : List ℕ) (high : ℕ) (falls : Bool) (start stride n : ℕ) (indices : List ℕ) → IsWalk high falls start stride n indices → high ≤ length bytes → n ≡ length source
    → moved_at bytes (place_of falls start stride) source (place_of false 0 1) 1 n ≡ set_at bytes indices source
moved_is_set bytes source high falls start stride n indices walk inside many =
    moved_are_set bytes source (place_of falls start stride) n (omega (arith, many)) (λ k less. omega (arith, walk.below k less, inside))
    ∙ ap₂ (λ (is xs : List ℕ). set_at bytes is xs) (sym walk.are) (take_all n source (omega (arith, many)))

-- Reads by indices, and what is read at the indices of a span.
use Rattle.std.proofs.Common.{◌≡◌, ◌≢◌, ℕ, zero, suc, ◌+◌, ◌-◌, ◌^◌, ◌<◌, ◌≤◌, Bool, true, false, List, [], ◌∷◌, ◌++◌, length, ℤ, pos, negsuc, refl, ap, sym, ◌∙◌, arith, Option, Some, get_or, take, drop, append_assoc, of_z}
use Rattle.std.specs.Prelude.{FitsSigned, slice_get, slice_range, All}
use Rattle.std.specs.Int.{w64}
use Rattle.std.specs.List.{cons_option}
use Rattle.std.proofs.lemmas.Int.{ints}
use Rattle.std.proofs.lemmas.List.Elements.{All-head, All-same, All-rest, All-weaker}
use Rattle.pybuf_index.specs.Facts.{how_many_one, length-rising}
use Rattle.pybuf_index.specs.Runs.{rising, how_many, picks_in_span, signed_step}
use Rattle.pybuf_index.specs.Laws.{EachSpan, SpanPicksAre}
use Rattle.pybuf_slice.specs.Reads.{elements_at}

-- ---- spans

pub up_moves : (t : ℕ) → pos (suc t) ≢ pos 0
up_moves t = λ e. omega (arith, ints, e)

pub down_moves : (t : ℕ) → negsuc t ≢ pos 0
down_moves t = λ e. omega (arith, ints, e)

-- What lies below the end of a span is a place in the sequence.
pub below_end : (n low high : ℕ) (indices : List ℕ) → high ≤ n → All (λ i. (low ≤ i) × (i < high)) indices → All (λ i. i < n) indices
below_end n low high indices inside within = All-weaker (λ i. (low ≤ i) × (i < high)) (λ i. i < n) (λ i p. omega (arith, p.1, inside)) indices within

pub stride_inside : (spans : EachSpan SpanPicksAre) (n low high stride : ℕ) (falls : Bool) → 0 < stride → high ≤ n → All (λ i. i < n) (picks_in_span low high (signed_step falls stride))
stride_inside spans n low high zero falls some h = absurd (omega arith)
stride_inside spans n low high (suc t) false some h = below_end n low high (picks_in_span low high (pos (suc t))) h (spans low high (pos (suc t)) (up_moves t)).within
stride_inside spans n low high (suc t) true some h = below_end n low high (picks_in_span low high (negsuc t)) h (spans low high (negsuc t) (down_moves t)).within

-- ---- a step of 1

-- A step of 1 picks the places of the span, in order.
pub run_by_one : (spans : EachSpan SpanPicksAre) (low high : ℕ) (step : ℤ) → step ≡ pos 1 → picks_in_span low high step ≡ rising low 1 (high - low)
run_by_one spans low high step one =
    let run : picks_in_span low high (pos 1) ≡ rising low 1 (how_many low high 1) = (spans low high (pos 1) (up_moves 0)).run in
    ap (picks_in_span low high) one ∙ run ∙ ap (rising low 1) (how_many_one low high)

pub length_by_one : (spans : EachSpan SpanPicksAre) (low high : ℕ) (step : ℤ) → step ≡ pos 1 → length (picks_in_span low high step) ≡ high - low
length_by_one spans low high step one = ap length (run_by_one spans low high step one) ∙ length-rising (high - low) low 1

-- the tests of the code for a step of 1 and of -1
pub one_from_bits : (z : ℤ) → FitsSigned w64 z → of_z w64 z ≡ 1 → z ≡ pos 1
one_from_bits z fits e = omega (arith, ints, e)

pub less_one_from_bits : (z : ℤ) → FitsSigned w64 z → of_z w64 z ≡ 2 ^ 64 - 1 → z ≡ negsuc 0
less_one_from_bits z fits e = omega (arith, ints, e)

-- ---- reads

pub slice_get_read : {X : Type 0} (xs : List X) (i : ℕ) (x : X) → i < length xs → x ≡ get_or xs i x → slice_get xs i ≡ Some x
slice_get_read [] i x h e = absurd (omega arith)
slice_get_read (y ∷ ys) zero x h e = ap Some (sym e)
slice_get_read (y ∷ ys) (suc i) x h e = slice_get_read ys i x (omega arith) e

pub gather_step : {X : Type 0} (items out new all : List X) (before rest : List ℕ) (i : ℕ) (x : X) → out ++ elements_at items before ≡ all → before ≡ i ∷ rest → i < length items → x ≡ get_or items i x → new ≡ out ++ x ∷ [] → new ++ elements_at items rest ≡ all
gather_step {X} items out new all before rest i x inv first h read pushed =
    let found_at : slice_get items i ≡ Some x = slice_get_read items i x h read in
    let more : elements_at items before ≡ x ∷ elements_at items rest =
    ap (elements_at items) first ∙ ap (λ (o : Option X). cons_option o (elements_at items rest)) found_at in
    ap (λ (xs : List X). xs ++ elements_at items rest) pushed
    ∙ append_assoc out (x ∷ []) (elements_at items rest)
    ∙ ap (λ (xs : List X). out ++ xs) (sym more) ∙ inv

drop_step : {X : Type 0} (xs : List X) (i : ℕ) → i < length xs → (x : X) × (slice_get xs i ≡ Some x) × (drop i xs ≡ x ∷ drop (suc i) xs)
drop_step [] i h = absurd (omega arith)
drop_step (y ∷ ys) zero h = (y, refl, refl)
drop_step (y ∷ ys) (suc i) h = drop_step ys i (omega arith)

elements_rising : {X : Type 0} (items : List X) (k low : ℕ) → low + k ≤ length items → elements_at items (rising low 1 k) ≡ take k (drop low items)
elements_rising items zero low h = refl
elements_rising {X} items (suc k) low h =
    let s = drop_step items low (omega arith) in
    let next : low + 1 ≡ suc low = omega arith in
    ap (λ (o : Option X). cons_option o (elements_at items (rising (low + 1) 1 k))) s.1
    ∙ ap (λ (xs : List X). s.0 ∷ xs) (ap (λ n. elements_at items (rising n 1 k)) next ∙ elements_rising items k (suc low) (omega arith))
    ∙ sym (ap (take (suc k)) s.2)

-- A step of 1 reads a range.
pub elements_by_one : {X : Type 0} (spans : EachSpan SpanPicksAre) (items : List X) (low high : ℕ) (step : ℤ) → step ≡ pos 1 → low ≤ high → high ≤ length items → elements_at items (picks_in_span low high step) ≡ slice_range items low high
elements_by_one spans items low high step one ordered inside =
    ap (elements_at items) (run_by_one spans low high step one) ∙ elements_rising items (high - low) low (omega arith)

pub first_inside : (n : ℕ) (before rest : List ℕ) (i : ℕ) → before ≡ i ∷ rest → All (λ k. k < n) before → i < n
first_inside n before rest i e all = All-head (λ k. k < n) i rest (All-same (λ k. k < n) (i ∷ rest) before (sym e) all)

pub rest_inside : (n : ℕ) (before rest : List ℕ) (i : ℕ) → before ≡ i ∷ rest → All (λ k. k < n) before → All (λ k. k < n) rest
rest_inside n before rest i e all = All-rest (λ k. k < n) i rest before e all

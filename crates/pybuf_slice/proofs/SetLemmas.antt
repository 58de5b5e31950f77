-- Elements that replace those of a slice.
use Rattle.std.proofs.Common.{◌≡◌, ◌≢◌, ℕ, zero, suc, ◌+◌, ◌-◌, ◌<◌, ◌≤◌, Bool, true, false, List, [], ◌∷◌, ◌++◌, length, take, drop, refl, ap, sym, ◌∙◌, subst, arith, inl, inr, ℤ, pos, negsuc, Option, None, Some, get_or, append_assoc, take-append-drop, length-take, length-set}
use Rattle.std.specs.Prelude.{All, AllPairs, Contains, IsTrue, slice_get, slice_set, nat_abs, ◌+ℤ◌, if◌then◌else◌}
use Rattle.std.specs.List.{cons_option}
use Rattle.std.proofs.lemmas.Bool.{cases_lt}
use Rattle.std.proofs.lemmas.Bool.Decides.{nat_tests}
use Rattle.std.proofs.lemmas.Int.{ints, clamps}
use Rattle.std.proofs.lemmas.List.{drop-set-lt, take_more_set, get_or_default}
use Rattle.std.proofs.lemmas.List.Elements.{All-head, All-tail}
use Rattle.pybuf_index.specs.Picks.{is_negative, start_of, stop_of, comes_before}
use Rattle.pybuf_index.specs.Parts.{SliceParts, picks_of}
use Rattle.pybuf_index.specs.Runs.{rising, span_start, span_end}
use Rattle.pybuf_index.specs.Laws.{EachSlice, PicksAre, EachSpan, SpanPicksAre, SlicesHaveSpans}
use Rattle.pybuf_slice.specs.Reads.{elements_at}
use Rattle.pybuf_slice.specs.Edits.{replaced_range, set_at, is_one, assigned_list}
use Rattle.pybuf_slice.specs.EditLaws.{AsManyAreReadBack, AnyNumberTakesThePlace}
use Rattle.pybuf_slice.proofs.ReadLemmas.{up_moves, run_by_one, length_by_one, elements_by_one}
use Rattle.pybuf_slice.proofs.EditLemmas.{drop_on}
use Rattle.pybuf_slice.proofs.LengthLemmas.{one_is, as_many}

-- ---- one element that is set

get_set : {X : Type 0} (items : List X) (i : ℕ) (x : X) → i < length items → slice_get (slice_set items i x) i ≡ Some x
get_set [] i x inside = absurd (omega arith)
get_set (y ∷ items) zero x inside = refl
get_set (y ∷ items) (suc i) x inside = get_set items i x (omega arith)

get_set_other : {X : Type 0} (items : List X) (i j : ℕ) (x : X) → i ≢ j → slice_get (slice_set items i x) j ≡ slice_get items j
get_set_other [] i j x other = refl
get_set_other (y ∷ items) zero zero x other = absurd (other refl)
get_set_other (y ∷ items) zero (suc j) x other = refl
get_set_other (y ∷ items) (suc i) zero x other = refl
get_set_other (y ∷ items) (suc i) (suc j) x other = get_set_other items i j x (λ e. other (ap suc e))

-- ---- elements that are set at indices

stays : {X : Type 0} (indices : List ℕ) (items others : List X) (j : ℕ) → All (λ i. i ≢ j) indices → slice_get (set_at items indices others) j ≡ slice_get items j
stays [] items others j off = refl
stays (i ∷ indices) items [] j off = refl
stays (i ∷ indices) items (x ∷ others) j off =
    stays indices (slice_set items i x) others j (All-tail (λ k. k ≢ j) i indices off)
    ∙ get_set_other items i j x (All-head (λ k. k ≢ j) i indices off)

-- No two indices are the same.
pub record AreApart (indices : List ℕ) : Type 0 where
  pub apart : AllPairs (λ i j. i ≢ j) indices

later_apart : (i : ℕ) (indices : List ℕ) → AreApart (i ∷ indices) → All (λ j. j ≢ i) indices
later_apart i indices a k d below = λ e. a.apart 0 (suc k) d (omega arith) (omega arith) (sym e)

rest_apart : (i : ℕ) (indices : List ℕ) → AreApart (i ∷ indices) → AreApart indices
rest_apart i indices a = record { apart = λ k l d less below. a.apart (suc k) (suc l) d (omega arith) (omega arith) }

read_set : {X : Type 0} (indices : List ℕ) (items others : List X) → AreApart indices → All (λ i. i < length items) indices → length indices ≡ length others
    → elements_at (set_at items indices others) indices ≡ others
read_set [] items [] apart inside count = refl
read_set [] items (x ∷ others) apart inside count = absurd (omega arith)
read_set (i ∷ indices) items [] apart inside count = absurd (omega arith)
read_set {X} (i ∷ indices) items (x ∷ others) apart inside count =
    let now : List X = slice_set items i x in
    let new : List X = set_at now indices others in
    let later : All (λ k. k < length now) indices = λ k d below. omega (arith, length-set items i x, All-tail (λ k. k < length items) i indices inside k d below) in
    let first : slice_get new i ≡ Some x =
    stays indices now others i (later_apart i indices apart) ∙ get_set items i x (All-head (λ k. k < length items) i indices inside) in
    ap (λ (o : Option X). cons_option o (elements_at new indices)) first
    ∙ ap (λ (xs : List X). x ∷ xs) (read_set indices now others (rest_apart i indices apart) later (omega arith))

-- ---- a range that as many elements replace

replaced_is_set : {X : Type 0} (others items : List X) (low high : ℕ) → low ≤ high → high ≤ length items → high - low ≡ length others
    → replaced_range items low high others ≡ set_at items (rising low 1 (length others)) others
replaced_is_set {X} [] items low high ordered inside count =
    let same : high ≡ low = omega arith in
    ap (λ n. take low items ++ drop n items) same ∙ take-append-drop low items
replaced_is_set {X} (x ∷ others) items low high ordered inside count =
    let now : List X = slice_set items low x in
    let size : length now ≡ length items = length-set items low x in
    sym (ap (λ (xs : List X). xs ++ (others ++ drop high now)) (take_more_set items low x (omega arith))
    ∙ (append_assoc (take low items) (x ∷ []) (others ++ drop high now)
    ∙ ap (λ (xs : List X). take low items ++ (x ∷ (others ++ xs))) (drop-set-lt high items low x (omega arith))))
    ∙ replaced_is_set others now (low + 1) high (omega arith) (omega arith) (omega arith)

either_is : {X : Type 0} (b : Bool) (xs ys zs : List X) → (b ≡ true → xs ≡ zs) → ys ≡ zs → (if b then xs else ys) ≡ zs
either_is true xs ys zs first second = first refl
either_is false xs ys zs first second = second

assigned_is_set : {X : Type 0} (spans : EachSpan SpanPicksAre) (slices : SlicesHaveSpans) (items : List X) (parts : SliceParts) (others : List X)
    → length (picks_of (length items) parts) ≡ length others → assigned_list items parts others ≡ set_at items (picks_of (length items) parts) others
assigned_is_set {X} spans slices items parts others count =
    either_is (is_one parts.step) (replaced_range items (span_start (length items) parts) (span_end (length items) parts) others) (set_at items (picks_of (length items) parts) others)
    (set_at items (picks_of (length items) parts) others)
    (λ is. by_one (one_is parts.step is)) refl
  where
    by_one : parts.step ≡ pos 1 → replaced_range items (span_start (length items) parts) (span_end (length items) parts) others ≡ set_at items (picks_of (length items) parts) others
    by_one one =
        let low : ℕ = span_start (length items) parts in
        let high : ℕ = span_end (length items) parts in
        let span = slices (length items) parts (λ none. up_moves 0 (sym one ∙ none)) in
        let long : high - low ≡ length others = sym (length_by_one spans low high parts.step one) ∙ ap length span.same ∙ count in
        let picked : rising low 1 (length others) ≡ picks_of (length items) parts =
        ap (rising low 1) (sym long) ∙ (sym (run_by_one spans low high parts.step one) ∙ span.same) in
        replaced_is_set others items low high span.ordered span.inside long ∙ ap (λ (indices : List ℕ). set_at items indices others) picked

-- ---- as many elements

-- No index comes before itself.
apart_by_order : (i j : ℕ) (step : ℤ) → IsTrue (comes_before (pos i) (pos j) step) → i ≢ j
apart_by_order i j (pos t) before = λ e. let less : i < j = grind (arith, nat_tests) in omega arith
apart_by_order i j (negsuc t) before = λ e. let less : j < i = grind (arith, nat_tests) in omega arith

picks_apart : (each : EachSlice PicksAre) (n : ℕ) (parts : SliceParts) → parts.step ≢ pos 0 → AreApart (picks_of n parts)
picks_apart each n parts moves = record {
  apart = λ k l d less below. apart_by_order (get_or (picks_of n parts) k d) (get_or (picks_of n parts) l d) parts.step
      ((each n parts.start parts.stop parts.step moves).ordered k l d less below);
}

off_picks : (indices : List ℕ) (i : ℕ) → ¬ Contains indices i → All (λ j. j ≢ i) indices
off_picks indices i off k d below = λ e. off (k, below, get_or_default indices k i d below ∙ e)

pub read_back : {X : Type 0} (each : EachSlice PicksAre) (spans : EachSpan SpanPicksAre) (slices : SlicesHaveSpans) (items : List X) (parts : SliceParts) (others : List X)
    → AsManyAreReadBack items parts others
read_back {X} each spans slices items parts others moves count =
    let n : ℕ = length items in
    let indices : List ℕ = picks_of n parts in
    let set : assigned_list items parts others ≡ set_at items indices others = assigned_is_set spans slices items parts others count in
    let size : length (assigned_list items parts others) ≡ n = as_many spans slices items parts others count in
    let inside : All (λ i. i < n) indices = (each n parts.start parts.stop parts.step moves).inside in
    record {
      read = ap (λ m. elements_at (assigned_list items parts others) (picks_of m parts)) size
          ∙ (ap (λ (xs : List X). elements_at xs indices) set ∙ read_set indices items others (picks_apart each n parts moves) inside count);
      stay = λ i off. ap (λ (xs : List X). slice_get xs i) set ∙ stays indices items others i (off_picks indices i off);
    }

-- ---- any number of elements, by a step of 1

-- A start is a place, or the length.
start_up : (n : ℕ) (part : Option ℤ) → (at : ℕ) × (start_of n part (pos 1) ≡ pos at)
start_up n None = (0, refl)
start_up n (Some (pos a)) = elim (cases_lt n a) [
  | inl far ↦ (n, omega (arith, ints, clamps))
  | inr near ↦ (a, omega (arith, ints, clamps))
]
start_up n (Some (negsuc a)) = elim (cases_lt a n) [
  | inl inside ↦ (n - suc a, omega (arith, ints, clamps))
  | inr under ↦ (0, omega (arith, ints, clamps))
]

start_is_place : (n : ℕ) (part : Option ℤ) (step : ℤ) → step ≡ pos 1 → pos (nat_abs (start_of n part step)) ≡ start_of n part step
start_is_place n part step one =
    let up = start_up n part in
    subst (λ (s : ℤ). pos (nat_abs (start_of n part s)) ≡ start_of n part s) (sym one) (ap (λ z. pos (nat_abs z)) up.1 ∙ sym up.1)

pub stand_between : {X : Type 0} (spans : EachSpan SpanPicksAre) (slices : SlicesHaveSpans) (items : List X) (parts : SliceParts) (others : List X)
    → AnyNumberTakesThePlace items parts others
stand_between {X} spans slices items parts others one =
    let n : ℕ = length items in
    let low : ℕ = span_start n parts in
    let high : ℕ = span_end n parts in
    let span = slices n parts (λ none. up_moves 0 (sym one ∙ none)) in
    let from_start : low ≡ nat_abs (start_of n parts.start parts.step) =
    ap (λ b. if b then nat_abs (stop_of n parts.stop parts.step +ℤ pos 1) else nat_abs (start_of n parts.start parts.step)) (ap is_negative one) in
    let long : length (take low items) ≡ low = omega (arith, length-take low items, span.ordered, span.inside) in
    let picked : elements_at items (picks_of n parts) ≡ take (high - low) (drop low items) =
    sym (ap (elements_at items) span.same) ∙ elements_by_one spans items low high parts.step one span.ordered span.inside in
    record {
      front = take low items;
      back = drop high items;
      starts = ap pos (long ∙ from_start) ∙ start_is_place n parts.start parts.step one;
      whole = ap (λ (xs : List X). take low items ++ (xs ++ drop high items)) picked
          ∙ (ap (λ (xs : List X). take low items ++ (take (high - low) (drop low items) ++ xs)) (sym (drop_on items low high span.ordered))
          ∙ (ap (λ (xs : List X). take low items ++ xs) (take-append-drop (high - low) (drop low items)) ∙ take-append-drop low items));
      changed = ap (λ b. if b then replaced_range items low high others else set_at items (picks_of n parts) others) (ap is_one one);
    }

-- Walks, and walks over the places of another walk.
use Rattle.std.proofs.Common.{◌≡◌, ℕ, zero, suc, ◌+◌, ◌-◌, ◌*◌, ◌/◌, ◌<◌, ◌≤◌, Bool, true, false, List, [], ◌∷◌, ◌++◌, length, refl, sym, ap, subst, ◌∙◌, arith, slice_get, Some}
use Rattle.std.specs.Prelude.{reverse, slice_index, ◌≢◌, ℤ, pos, int_lt, nat_abs}
use Rattle.std.proofs.Common.{ltb}
use Rattle.std.specs.List.{range_with_len}
use Rattle.std.proofs.Math.Nat.{suc-mul, mul_comm, mul_assoc, add-mul, div-mul-le_self, div-le_self, mul-le-mul_right}
use Rattle.std.proofs.lemmas.List.{reverse-append, length-reverse}
use Rattle.std.proofs.lemmas.Bool.{ltb-true}
use Rattle.pybuf_index.specs.Facts.{length_rising, negative_is}
use Rattle.pybuf_index.specs.Picks.{is_negative}
use Rattle.pybuf_index.specs.Laws.{SpanPicksAre}
use Rattle.pybuf_slice.specs.Reads.{elements_at}
use Rattle.pybuf_index.specs.Runs.{rising, run_of, run_low, how_many, picks_in_span}
use Rattle.pybuf_numbers.specs.Walks.{walk, next_of, place_of, differ, WalksBelow}

pub length_walk : (falls : Bool) (start stride count : ℕ) → length (walk falls start stride count) ≡ count
length_walk falls start stride zero = refl
length_walk falls start stride (suc count) = ap suc (length_walk falls (next_of falls start stride) stride count)

pub walk_of_all : (from count : ℕ) → walk false from 1 count ≡ range_with_len from count
walk_of_all from zero = refl
walk_of_all from (suc count) = ap (λ rest. from ∷ rest) (walk_of_all (from + 1) count)

pub place_next : (falls : Bool) (start stride k : ℕ) → place_of falls (next_of falls start stride) stride k ≡ place_of falls start stride (suc k)
place_next true start stride k = omega (arith, suc-mul k stride)
place_next false start stride k = omega (arith, suc-mul k stride)

place_first : (falls : Bool) (start stride : ℕ) → start ≡ place_of falls start stride 0
place_first true start stride = omega arith
place_first false start stride = omega arith

pub walk_at : (falls : Bool) (start stride count k : ℕ) → k < count → slice_get (walk falls start stride count) k ≡ Some (place_of falls start stride k)
walk_at falls start stride zero k below = absurd (omega arith)
walk_at falls start stride (suc count) zero below = ap Some (place_first falls start stride)
walk_at falls start stride (suc count) (suc k) below = walk_at falls (next_of falls start stride) stride count k (omega arith) ∙ ap Some (place_next falls start stride k)

pub walk_index : (falls : Bool) (start stride count k : ℕ) → k < count → place_of falls start stride k ≡ slice_index (walk falls start stride count) k
walk_index falls start stride zero k below = absurd (omega arith)
walk_index falls start stride (suc count) zero below = sym (place_first falls start stride)
walk_index falls start stride (suc count) (suc k) below = sym (place_next falls start stride k) ∙ walk_index falls (next_of falls start stride) stride count k (omega arith)

-- ---- the indices at the places of another walk

first_below : (n : ℕ) (falls : Bool) (start stride count : ℕ) → WalksBelow n falls start stride (suc count) → start < n
first_below n true start stride count below = (below (omega arith)).0
first_below n false start stride count below = let last = below (omega arith) in omega (arith, last)

one_more : (count stride : ℕ) → 0 < count → (suc count - 1) * stride ≡ (count - 1) * stride + stride
one_more zero stride some = absurd (omega arith)
one_more (suc count) stride some =
    let less : suc (suc count) - 1 ≡ suc count = omega arith in
    let least : suc count - 1 ≡ count = omega arith in
    rw (less, least) (suc-mul count stride)

rest_below : (n : ℕ) (falls : Bool) (start stride count : ℕ) → WalksBelow n falls start stride (suc count) → WalksBelow n falls (next_of falls start stride) stride count
rest_below n true start stride count below =
    λ some.
    let first = below (omega arith) in
    let more = one_more count stride some in
    (omega (arith, first.0), omega (arith, first.1, more))
rest_below n false start stride count below =
    λ some.
    let last = below (omega arith) in
    let more = one_more count stride some in
    omega (arith, last, more)

-- A falling walk doesn't go past 0.
falls_far : (n : ℕ) (start stride count k : ℕ) → WalksBelow n true start stride count → k < count → k * stride ≤ start
falls_far n start stride count k below there = omega (arith, (below (omega arith)).1, mul-le-mul_right {m = k} {n = count - 1} stride (omega arith))

stepping : (F f : Bool) (A S C a s k n : ℕ) → WalksBelow n F A S C → WalksBelow C f a s (suc (suc k)) → place_of F A S (next_of f a s) ≡ next_of (differ F f) (place_of F A S a) (S * s)
stepping false false A S C a s k n inside places = omega (arith, add-mul a s S, mul_comm s S)
stepping true false A S C a s k n inside places = omega (arith, add-mul a s S, mul_comm s S)
stepping false true A S C a s k n inside places =
    let less : suc (suc k) - 1 ≡ suc k = omega arith in
    let enough : s ≤ a = omega (arith, (places (omega arith)).1, ap (λ m. m * s) less, suc-mul k s) in
    let all : a ≡ (a - s) + s = omega arith in
    let sum : a * S ≡ (a - s) * S + s * S = ap (λ m. m * S) all ∙ add-mul (a - s) s S in
    omega (arith, sum, mul_comm s S)
stepping true true A S C a s k n inside places =
    let less : suc (suc k) - 1 ≡ suc k = omega arith in
    let enough : s ≤ a = omega (arith, (places (omega arith)).1, ap (λ m. m * s) less, suc-mul k s) in
    let all : a ≡ (a - s) + s = omega arith in
    let sum : a * S ≡ (a - s) * S + s * S = ap (λ m. m * S) all ∙ add-mul (a - s) s S in
    let far : a * S ≤ A = falls_far n A S C a inside (omega (arith, (places (omega arith)).0)) in
    omega (arith, sum, mul_comm s S, far)

next_chosen : (F f : Bool) (A S C a s k n : ℕ) → WalksBelow n F A S C → WalksBelow C f a s (suc k)
    → walk (differ F f) (place_of F A S (next_of f a s)) (S * s) k ≡ walk (differ F f) (next_of (differ F f) (place_of F A S a) (S * s)) (S * s) k
next_chosen F f A S C a s zero n inside places = refl
next_chosen F f A S C a s (suc k) n inside places = ap (λ m. walk (differ F f) m (S * s) (suc k)) (stepping F f A S C a s k n inside places)

pub walk_chosen : (F f : Bool) (A S C a s k n : ℕ) → WalksBelow n F A S C → WalksBelow C f a s k → elements_at (walk F A S C) (walk f a s k) ≡ walk (differ F f) (place_of F A S a) (S * s) k
walk_chosen F f A S C a s zero n inside places = refl
walk_chosen F f A S C a s (suc k) n inside places =
    let there : slice_get (walk F A S C) a ≡ Some (place_of F A S a) = walk_at F A S C a (first_below C f a s k places) in
    rw there (ap (λ rest. place_of F A S a ∷ rest)
    (walk_chosen F f A S C (next_of f a s) s k n inside (rest_below C f a s k places) ∙ next_chosen F f A S C a s k n inside places))

product : (S s k : ℕ) → (k - 1) * (S * s) ≡ (k - 1) * s * S
product S s k = ap (λ x. (k - 1) * x) (mul_comm S s) ∙ sym (mul_assoc (k - 1) s S)

pub chosen_below : (F f : Bool) (A S C a s k n : ℕ) → WalksBelow n F A S C → WalksBelow C f a s k → WalksBelow n (differ F f) (place_of F A S a) (S * s) k
chosen_below false false A S C a s k n inside places =
    λ some.
    let last : a + (k - 1) * s < C = places some in
    let far : A + (C - 1) * S < n = inside (omega arith) in
    let most : (a + (k - 1) * s) * S ≤ (C - 1) * S = mul-le-mul_right {m = a + (k - 1) * s} {n = C - 1} S (omega arith) in
    omega (arith, far, most, add-mul a ((k - 1) * s) S, product S s k)
chosen_below false true A S C a s k n inside places =
    λ some.
    let low : (k - 1) * s ≤ a = (places some).1 in
    let there : a < C = (places some).0 in
    let far : A + (C - 1) * S < n = inside (omega arith) in
    let most : a * S ≤ (C - 1) * S = mul-le-mul_right {m = a} {n = C - 1} S (omega arith) in
    let least : (k - 1) * s * S ≤ a * S = mul-le-mul_right {m = (k - 1) * s} {n = a} S low in
    (omega (arith, far, most), omega (arith, least, product S s k))
chosen_below true false A S C a s k n inside places =
    λ some.
    let last : a + (k - 1) * s < C = places some in
    let top : A < n = (inside (omega arith)).0 in
    let far : (C - 1) * S ≤ A = (inside (omega arith)).1 in
    let most : (a + (k - 1) * s) * S ≤ (C - 1) * S = mul-le-mul_right {m = a + (k - 1) * s} {n = C - 1} S (omega arith) in
    (omega (arith, top), omega (arith, far, most, add-mul a ((k - 1) * s) S, product S s k))
chosen_below true true A S C a s k n inside places =
    λ some.
    let low : (k - 1) * s ≤ a = (places some).1 in
    let there : a < C = (places some).0 in
    let top : A < n = (inside (omega arith)).0 in
    let far : (C - 1) * S ≤ A = (inside (omega arith)).1 in
    let most : a * S ≤ (C - 1) * S = mul-le-mul_right {m = a} {n = C - 1} S (omega arith) in
    let least : (k - 1) * s * S ≤ a * S = mul-le-mul_right {m = (k - 1) * s} {n = a} S low in
    omega (arith, top, far, most, least, product S s k)

-- A single index has neither a stride nor a direction.
pub chosen_one : (F f : Bool) (A S C a s k n r : ℕ) → WalksBelow n F A S C → WalksBelow C f a s k → r ≡ place_of F A S a → k ≡ 1 → r ∷ [] ≡ elements_at (walk F A S C) (walk f a s k)
chosen_one F f A S C a s k n r inside places is one =
    ap (λ (x : ℕ). x ∷ []) is ∙ sym (walk_chosen F f A S C a s k n inside places ∙ ap (λ m. walk (differ F f) (place_of F A S a) (S * s) m) one)

pub chosen_more : (F f d : Bool) (A S C a s k n r : ℕ) → WalksBelow n F A S C → WalksBelow C f a s k → r ≡ place_of F A S a → d ≡ differ F f → walk d r (S * s) k ≡ elements_at (walk F A S C) (walk f a s k)
chosen_more F f d A S C a s k n r inside places is turn =
    ap (λ b. walk b r (S * s) k) turn ∙ (ap (λ m. walk (differ F f) m (S * s) k) is ∙ sym (walk_chosen F f A S C a s k n inside places))

pub chosen_more_below : (F f d : Bool) (A S C a s k n r : ℕ) → WalksBelow n F A S C → WalksBelow C f a s k → r ≡ place_of F A S a → d ≡ differ F f → WalksBelow n d r (S * s) k
chosen_more_below F f d A S C a s k n r inside places is turn =
    subst (λ (b : Bool). WalksBelow n b r (S * s) k) (sym turn) (subst (λ (m : ℕ). WalksBelow n (differ F f) m (S * s) k) (sym is) (chosen_below F f A S C a s k n inside places))

-- ---- the indices of a slice

pub rising_walk : (low stride count : ℕ) → rising low stride count ≡ walk false low stride count
rising_walk low stride zero = refl
rising_walk low stride (suc count) = ap (λ rest. low ∷ rest) (rising_walk (low + stride) stride count)

rising_last : (low stride count : ℕ) → rising low stride (suc count) ≡ rising low stride count ++ (low + count * stride) ∷ []
rising_last low stride zero = ap (λ (x : ℕ). x ∷ []) (omega arith)
rising_last low stride (suc count) =
    let end : low + stride + count * stride ≡ low + suc count * stride = omega (arith, suc-mul count stride) in
    ap (λ rest. low ∷ rest) (rising_last (low + stride) stride count ∙ ap (λ x. rising (low + stride) stride count ++ x ∷ []) end)

before_last : (low stride count : ℕ) → walk true (low + (count - 1) * stride) stride count ≡ walk true (low + count * stride - stride) stride count
before_last low stride zero = refl
before_last low stride (suc count) =
    let less : suc count - 1 ≡ count = omega arith in
    let same : low + (suc count - 1) * stride ≡ low + suc count * stride - stride = omega (arith, ap (λ m. m * stride) less, suc-mul count stride) in
    ap (λ m. walk true m stride (suc count)) same

pub falling_walk : (low stride count : ℕ) → reverse (rising low stride count) ≡ walk true (low + (count - 1) * stride) stride count
falling_walk low stride zero = refl
falling_walk low stride (suc count) =
    let less : suc count - 1 ≡ count = omega arith in
    let same : low + (suc count - 1) * stride ≡ low + count * stride = ap (λ m. low + m * stride) less in
    ap reverse (rising_last low stride count)
    ∙ (reverse-append (rising low stride count) ((low + count * stride) ∷ [])
    ∙ (ap (λ rest. (low + count * stride) ∷ rest) (falling_walk low stride count ∙ before_last low stride count)
    ∙ sym (ap (λ m. walk true m stride (suc count)) same)))

-- A span that has indices reaches as far as they do, and has as many places.
span_count : (low high stride : ℕ) (b : Bool) → ltb low high ≡ b → how_many low high stride ≢ 0 → (low < high) × (((how_many low high stride - 1) * stride ≤ high - low - 1) × (how_many low high stride ≤ high - low))
span_count low high stride true e some =
    let count : how_many low high stride ≡ (high - low - 1) / stride + 1 = rw e refl in
    let less : how_many low high stride - 1 ≡ (high - low - 1) / stride = omega (arith, count) in
    let ordered : low < high = ltb-true _ _ e in
    (ordered, (omega (arith, ap (λ m. m * stride) less, div-mul-le_self (high - low - 1) stride), omega (arith, count, ordered, div-le_self (high - low - 1) stride)))
span_count low high stride false e some = absurd (some (rw e refl))

pub record IsWalk (indices : List ℕ) (n : ℕ) (falls : Bool) (start stride count : ℕ) : Type 0 where
  pub list : walk falls start stride count ≡ indices
  pub below : WalksBelow n falls start stride count
  pub few : count ≤ n

pub slice_rises : (low high k n : ℕ) (step : ℤ) (list : List ℕ) → picks_in_span low high step ≡ list → k ≡ length list → SpanPicksAre low high step → high ≤ n → k ≢ 0 → is_negative step ≡ false
    → IsWalk list n false low (nat_abs step) k
slice_rises low high k n step list picks count span inside some sign =
    let hm : ℕ = how_many low high (nat_abs step) in
    let run : list ≡ rising low (nat_abs step) hm = sym picks ∙ (span.run ∙ ap (λ b. run_of b (run_low b low high (nat_abs step) hm) (nat_abs step) hm) sign) in
    let same : k ≡ hm = count ∙ ap length run ∙ length_rising low (nat_abs step) hm in
    let reach = span_count low high (nat_abs step) (ltb low high) refl (λ none. some (same ∙ none)) in
    record {
      list = ap (λ m. walk false low (nat_abs step) m) same ∙ (sym (rising_walk low (nat_abs step) hm) ∙ sym run);
      below = λ _. omega (arith, ap (λ m. (m - 1) * nat_abs step) same, reach.0, reach.1.0);
      few = omega (arith, reach.1.1);
    }

pub slice_falls : (low high k n : ℕ) (step : ℤ) (list : List ℕ) → picks_in_span low high step ≡ list → k ≡ length list → SpanPicksAre low high step → high ≤ n → k ≢ 0 → is_negative step ≡ true
    → IsWalk list n true (high - 1) (nat_abs step) k
slice_falls low high k n step list picks count span inside some sign =
    let s : ℕ = nat_abs step in
    let hm : ℕ = how_many low high s in
    let first : ℕ = high - 1 - (hm - 1) * s in
    let run : list ≡ reverse (rising first s hm) = sym picks ∙ (span.run ∙ ap (λ b. run_of b (run_low b low high s hm) s hm) sign) in
    let same : k ≡ hm = count ∙ ap length run ∙ length-reverse (rising first s hm) ∙ length_rising first s hm in
    let reach = span_count low high s (ltb low high) refl (λ none. some (same ∙ none)) in
    let top : first + (hm - 1) * s ≡ high - 1 = omega (arith, reach.0, reach.1.0) in
    record {
      list = ap (λ m. walk true (high - 1) s m) same ∙ (sym (falling_walk first s hm ∙ ap (λ m. walk true m s hm) top) ∙ sym run);
      below = λ _. (omega (arith, reach.0), omega (arith, ap (λ m. (m - 1) * s) same, reach.0, reach.1.0));
      few = omega (arith, reach.1.1);
    }

-- ---- the same for a step that the code sees

pub code_rises : (low high k n stride : ℕ) (step seen : ℤ) (indices : List ℕ) → picks_in_span low high step ≡ indices → k ≡ length indices → SpanPicksAre low high step → high ≤ n → (k ≡ 0 → ⊥)
    → seen ≡ step → stride ≡ nat_abs seen → int_lt seen (pos 0) ≡ false → IsWalk indices n false low stride k
code_rises low high k n stride step seen indices picks count span inside some same far sign =
    let size : stride ≡ nat_abs step = far ∙ ap nat_abs same in
    let up : is_negative step ≡ false = sym (negative_is step) ∙ (ap (λ (z : ℤ). int_lt z (pos 0)) (sym same) ∙ sign) in
    subst (λ (m : ℕ). IsWalk indices n false low m k) (sym size) (slice_rises low high k n step indices picks count span inside some up)

pub code_falls : (low high k n stride : ℕ) (step seen : ℤ) (indices : List ℕ) → picks_in_span low high step ≡ indices → k ≡ length indices → SpanPicksAre low high step → high ≤ n → (k ≡ 0 → ⊥)
    → seen ≡ step → stride ≡ nat_abs seen → int_lt seen (pos 0) ≡ true → IsWalk indices n true (high - 1) stride k
code_falls low high k n stride step seen indices picks count span inside some same far sign =
    let size : stride ≡ nat_abs step = far ∙ ap nat_abs same in
    let down : is_negative step ≡ true = sym (negative_is step) ∙ (ap (λ (z : ℤ). int_lt z (pos 0)) (sym same) ∙ sign) in
    subst (λ (m : ℕ). IsWalk indices n true (high - 1) m k) (sym size) (slice_falls low high k n step indices picks count span inside some down)

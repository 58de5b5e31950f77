-- The laws of index lists and of spans.
use Rattle.std.proofs.Common.{◌≡◌, ◌≢◌, ℕ, zero, suc, ◌+◌, ◌-◌, ◌*◌, ◌/◌, ◌^◌, ◌<◌, ◌≤◌, List, length, ℤ, pos, negsuc, refl, ap, sym, ◌∙◌, arith, ◌⊎◌, inl, inr, Option, None, Some, get_or}
use Rattle.std.specs.Prelude.{◌↔◌, ◌+ℤ◌, ◌*ℤ◌, neg_ℤ, nat_abs, max, IsTrue, slice_index, All, AllPairs, Contains}
use Rattle.std.proofs.lemmas.Int.{ints, clamps}
use Rattle.std.proofs.lemmas.Bool.{cases_lt}
use Rattle.std.proofs.lemmas.Bool.Decides.{nat_tests}
use Rattle.std.proofs.lemmas.Nat.{div-add-mod', le-div, mul-le}
use Rattle.std.proofs.lemmas.List.{get_or_default}
use Rattle.std.proofs.Math.Nat.{suc-mul}
use Rattle.pybuf_index.specs.Facts.{how_many_none, how_many_some, length-rising}
use Rattle.pybuf_index.specs.Picks.{adjusted_part, start_of, stop_of, picks, comes_before}
use Rattle.pybuf_index.specs.Parts.{SliceParts, nearest_word, clamped_part}
use Rattle.pybuf_index.specs.Runs.{rising, how_many, picks_in_span, span_start, span_end}
use Rattle.pybuf_index.specs.Laws.{PicksAre, SameWhenClamped, SpanPicksAre, HasSpan}
use Rattle.pybuf_index.proofs.StepLemmas.{how_many_last, below, below-is, falling}
use Rattle.pybuf_index.proofs.SpanLemmas.{start_up, stop_up, start_down, stop_down, picks_up, picks_down, span_rises, span_falls, nat_abs_above, picks_span, length-falling, length-picks_in_span, run-span, rising_at}

-- ---- clamping

adjusted_clamped_up : (n t u : ℕ) (a : ℤ) → n < 2 ^ 63 → adjusted_part n (pos (suc t)) (nearest_word a) ≡ adjusted_part n (pos (suc u)) a
adjusted_clamped_up n t u (pos a) h = omega (arith, ints, clamps)
adjusted_clamped_up n t u (negsuc a) h = omega (arith, ints, clamps)

adjusted_clamped_down : (n t u : ℕ) (a : ℤ) → n < 2 ^ 63 → adjusted_part n (negsuc t) (nearest_word a) ≡ adjusted_part n (negsuc u) a
adjusted_clamped_down n t u (pos a) h = omega (arith, ints, clamps)
adjusted_clamped_down n t u (negsuc a) h = omega (arith, ints, clamps)

start_clamped_up : (n t u : ℕ) (part : Option ℤ) → n < 2 ^ 63 → start_of n (clamped_part part) (pos (suc t)) ≡ start_of n part (pos (suc u))
start_clamped_up n t u None h = refl
start_clamped_up n t u (Some a) h = adjusted_clamped_up n t u a h

stop_clamped_up : (n t u : ℕ) (part : Option ℤ) → n < 2 ^ 63 → stop_of n (clamped_part part) (pos (suc t)) ≡ stop_of n part (pos (suc u))
stop_clamped_up n t u None h = refl
stop_clamped_up n t u (Some a) h = adjusted_clamped_up n t u a h

start_clamped_down : (n t u : ℕ) (part : Option ℤ) → n < 2 ^ 63 → start_of n (clamped_part part) (negsuc t) ≡ start_of n part (negsuc u)
start_clamped_down n t u None h = refl
start_clamped_down n t u (Some a) h = adjusted_clamped_down n t u a h

stop_clamped_down : (n t u : ℕ) (part : Option ℤ) → n < 2 ^ 63 → stop_of n (clamped_part part) (negsuc t) ≡ stop_of n part (negsuc u)
stop_clamped_down n t u None h = refl
stop_clamped_down n t u (Some a) h = adjusted_clamped_down n t u a h

-- Two strides that both pass the end give the same run.
one_step_up : (a b t u : ℕ) → b ≤ suc t → b ≤ suc u → rising a (suc t) (how_many a b (suc t)) ≡ rising a (suc u) (how_many a b (suc u))
one_step_up a b t u h k =
    elim (cases_lt a b) [
      | inl under ↦ ap (rising a (suc t)) (how_many_last a b t under (omega arith)) ∙ sym (ap (rising a (suc u)) (how_many_last a b u under (omega arith)))
      | inr over ↦ ap (rising a (suc t)) (how_many_none a b (suc t) over) ∙ sym (ap (rising a (suc u)) (how_many_none a b (suc u) over))
    ]

one_step_down : (b a t u : ℕ) → a ≤ suc t → a ≤ suc u → falling a (suc t) (how_many b a (suc t)) ≡ falling a (suc u) (how_many b a (suc u))
one_step_down b a t u h k =
    elim (cases_lt b a) [
      | inl under ↦ ap (falling a (suc t)) (how_many_last b a t under (omega arith)) ∙ sym (ap (falling a (suc u)) (how_many_last b a u under (omega arith)))
      | inr over ↦ ap (falling a (suc t)) (how_many_none b a (suc t) over) ∙ sym (ap (falling a (suc u)) (how_many_none b a (suc u) over))
    ]

picks_clamped_up : (n t u : ℕ) (start stop : Option ℤ) → n < 2 ^ 63 → (t ≡ u) ⊎ ((n ≤ suc t) × (n ≤ suc u)) → picks n (clamped_part start) (clamped_part stop) (pos (suc t)) ≡ picks n start stop (pos (suc u))
picks_clamped_up n t u start stop h which =
    let a = start_up n u start in
    let b = stop_up n u stop in
    let strides : rising a.at (suc t) (how_many a.at b.at (suc t)) ≡ rising a.at (suc u) (how_many a.at b.at (suc u)) =
    elim which [
      | inl same ↦ ap (λ x. rising a.at (suc x) (how_many a.at b.at (suc x))) same
      | inr wide ↦ one_step_up a.at b.at t u (omega (arith, wide.0, b.within)) (omega (arith, wide.1, b.within))
    ] in
    picks_up n t a.at b.at (clamped_part start) (clamped_part stop) (start_clamped_up n t u start h ∙ a.is) (stop_clamped_up n t u stop h ∙ b.is) b.within
    ∙ strides ∙ sym (picks_up n u a.at b.at start stop a.is b.is b.within)

picks_clamped_down : (n t u : ℕ) (start stop : Option ℤ) → n < 2 ^ 63 → (t ≡ u) ⊎ ((n ≤ suc t) × (n ≤ suc u)) → picks n (clamped_part start) (clamped_part stop) (negsuc t) ≡ picks n start stop (negsuc u)
picks_clamped_down n t u start stop h which =
    let a = start_down n u start in
    let b = stop_down n u stop in
    let strides : falling a.top (suc t) (how_many b.top a.top (suc t)) ≡ falling a.top (suc u) (how_many b.top a.top (suc u)) =
    elim which [
      | inl same ↦ ap (λ x. falling a.top (suc x) (how_many b.top a.top (suc x))) same
      | inr wide ↦ one_step_down b.top a.top t u (omega (arith, wide.0, a.within)) (omega (arith, wide.1, a.within))
    ] in
    picks_down n t a.top b.top (clamped_part start) (clamped_part stop) (start_clamped_down n t u start h ∙ a.is) (stop_clamped_down n t u stop h ∙ b.is) a.within
    ∙ strides ∙ sym (picks_down n u a.top b.top start stop a.is b.is a.within)

pub same_when_clamped : (n : ℕ) (start stop : Option ℤ) (step : ℤ) → step ≢ pos 0 → SameWhenClamped n start stop step
same_when_clamped n start stop (pos zero) moves h = absurd (moves refl)
same_when_clamped n start stop (pos (suc t)) moves h =
    elim (cases_lt t (2 ^ 63 - 1)) [
      | inl fits ↦
          let e : nearest_word (pos (suc t)) ≡ pos (suc t) = omega (arith, ints, clamps) in
          ap (picks n (clamped_part start) (clamped_part stop)) e ∙ picks_clamped_up n t t start stop h (inl refl)
      | inr wide ↦
          let e : nearest_word (pos (suc t)) ≡ pos (suc (2 ^ 63 - 2)) = omega (arith, ints, clamps) in
          ap (picks n (clamped_part start) (clamped_part stop)) e ∙ picks_clamped_up n (2 ^ 63 - 2) t start stop h (inr (omega arith, omega arith))
    ]
same_when_clamped n start stop (negsuc t) moves h =
    elim (cases_lt t (2 ^ 63)) [
      | inl fits ↦
          let e : nearest_word (negsuc t) ≡ negsuc t = omega (arith, ints, clamps) in
          ap (picks n (clamped_part start) (clamped_part stop)) e ∙ picks_clamped_down n t t start stop h (inl refl)
      | inr wide ↦
          let e : nearest_word (negsuc t) ≡ negsuc (2 ^ 63 - 1) = omega (arith, ints, clamps) in
          ap (picks n (clamped_part start) (clamped_part stop)) e ∙ picks_clamped_down n (2 ^ 63 - 1) t start stop h (inr (omega arith, omega arith))
    ]

-- ---- which numbers a run has

pub how_many_below : (low high t k : ℕ) → k < how_many low high (suc t) → low + k * suc t < high
how_many_below low high t k h =
    elim (cases_lt low high) [
      | inl under ↦
          let q : k ≤ (high - low - 1) / suc t = omega (arith, h, how_many_some low high (suc t) under) in
          let d = div-add-mod' (high - low - 1) (suc t) in
          let m : k * suc t ≤ (high - low - 1) / suc t * suc t = mul-le k (suc t) ((high - low - 1) / suc t) (suc t) q (omega arith) in
          omega (arith, d, m)
      | inr over ↦ absurd (omega (arith, h, how_many_none low high (suc t) over))
    ]

how_many_reach : (low high t k : ℕ) → low + k * suc t < high → k < how_many low high (suc t)
how_many_reach low high t k h =
    let under : low < high = omega arith in
    let q : k ≤ (high - low - 1) / suc t = le-div k (high - low - 1) (suc t) (omega arith) (omega arith) in
    rw (how_many_some low high (suc t) under) (omega arith)

falling_at : (c top s i : ℕ) → i < c → slice_index (falling top s c) i ≡ top - 1 - i * s
falling_at zero top s i h = absurd (omega arith)
falling_at (suc c) top s zero h = grind arith
falling_at (suc c) top s (suc i) h = falling_at c (top - s) s i (omega arith) ∙ omega (arith, suc-mul i s)

-- which place comes first along a step
up_is : (i b t : ℕ) → i < b → IsTrue (comes_before (pos i) (pos b) (pos (suc t)))
up_is i b t h = grind (arith, nat_tests)

up_was : (i b t : ℕ) → IsTrue (comes_before (pos i) (pos b) (pos (suc t))) → i < b
up_was i b t h = grind (arith, nat_tests)

down_is : (i b t : ℕ) → b ≤ i → IsTrue (comes_before (pos i) (below b) (negsuc t))
down_is i zero t h = grind (arith, nat_tests)
down_is i (suc b) t h = grind (arith, nat_tests)

down_was : (i b t : ℕ) → IsTrue (comes_before (pos i) (below b) (negsuc t)) → b ≤ i
down_was i zero t h = omega arith
down_was i (suc b) t h = grind (arith, nat_tests)

-- A list contains what stands at one of its places.
contained : (xs : List ℕ) (i k : ℕ) → k < length xs → slice_index xs k ≡ i → Contains xs i
contained xs i k h e = (k, h, get_or_default xs k i 0 h ∙ e)

found : (xs : List ℕ) (i k : ℕ) → k < length xs → get_or xs k i ≡ i → slice_index xs k ≡ i
found xs i k h e = get_or_default xs k 0 i h ∙ e

members_up : (a b t i : ℕ) → Contains (rising a (suc t) (how_many a b (suc t))) i ↔ ((k : ℕ) × (pos i ≡ pos a +ℤ pos k *ℤ pos (suc t)) × IsTrue (comes_before (pos i) (pos b) (pos (suc t))))
members_up a b t i =
    let c : ℕ = how_many a b (suc t) in
    let n : length (rising a (suc t) c) ≡ c = length-rising c a (suc t) in (
      (λ (m : Contains (rising a (suc t) c) i).
          let inside : m.0 < c = omega (arith, n, m.1) in
          let at : i ≡ a + m.0 * suc t = sym (found (rising a (suc t) c) i m.0 m.1 m.2) ∙ rising_at c a (suc t) m.0 inside in
          let stays = how_many_below a b t m.0 inside in
          (m.0, ap pos at, up_is i b t (omega arith))),
      (λ (m : (k : ℕ) × (pos i ≡ pos a +ℤ pos k *ℤ pos (suc t)) × IsTrue (comes_before (pos i) (pos b) (pos (suc t)))).
          let at : i ≡ a + m.0 * suc t = omega (arith, ints, m.1) in
          let under : i < b = up_was i b t m.2 in
          let inside : m.0 < c = how_many_reach a b t m.0 (omega arith) in
          contained (rising a (suc t) c) i m.0 (omega arith) (rising_at c a (suc t) m.0 inside ∙ sym at)),
    )

-- a place that lies k strides below the top
down_place : (top k s i : ℕ) → k * s < top → i ≡ top - 1 - k * s → pos i ≡ below top +ℤ neg_ℤ (pos (k * s))
down_place top k s i h e = rw (e, ← below-is top) (omega (arith, ints))

down_index : (top k s i : ℕ) → pos i ≡ below top +ℤ neg_ℤ (pos (k * s)) → (i ≡ top - 1 - k * s) × (k * s < top)
down_index top k s i e =
    let f = e ∙ ap (λ z. z +ℤ neg_ℤ (pos (k * s))) (sym (below-is top)) in
    (omega (arith, ints, f), omega (arith, ints, f))

members_down : (a b t i : ℕ) → Contains (falling a (suc t) (how_many b a (suc t))) i ↔ ((k : ℕ) × (pos i ≡ below a +ℤ pos k *ℤ negsuc t) × IsTrue (comes_before (pos i) (below b) (negsuc t)))
members_down a b t i =
    let c : ℕ = how_many b a (suc t) in
    let n : length (falling a (suc t) c) ≡ c = length-falling c a (suc t) in (
      (λ (m : Contains (falling a (suc t) c) i).
          let inside : m.0 < c = omega (arith, n, m.1) in
          let at : i ≡ a - 1 - m.0 * suc t = sym (found (falling a (suc t) c) i m.0 m.1 m.2) ∙ falling_at c a (suc t) m.0 inside in
          let stays = how_many_below b a t m.0 inside in
          (m.0, down_place a m.0 (suc t) i (omega arith) at, down_is i b t (omega arith))),
      (λ (m : (k : ℕ) × (pos i ≡ below a +ℤ pos k *ℤ negsuc t) × IsTrue (comes_before (pos i) (below b) (negsuc t))).
          let at = down_index a m.0 (suc t) i m.1 in
          let over : b ≤ i = down_was i b t m.2 in
          let inside : m.0 < c = how_many_reach b a t m.0 (omega (arith, at.0, at.1)) in
          contained (falling a (suc t) c) i m.0 (omega arith) (falling_at c a (suc t) m.0 inside ∙ sym at.0)),
    )

further : (i j t : ℕ) → i < j → i * suc t < j * suc t
further i j t h =
    let m : suc i * suc t ≤ j * suc t = mul-le (suc i) (suc t) j (suc t) (omega arith) (omega arith) in
    omega (arith, m, suc-mul i (suc t))

read_up : (a t c k d : ℕ) → k < length (rising a (suc t) c) → get_or (rising a (suc t) c) k d ≡ a + k * suc t
read_up a t c k d h =
    get_or_default (rising a (suc t) c) k d 0 h ∙ rising_at c a (suc t) k (omega (arith, h, length-rising c a (suc t)))

read_down : (a t c k d : ℕ) → k < length (falling a (suc t) c) → get_or (falling a (suc t) c) k d ≡ a - 1 - k * suc t
read_down a t c k d h =
    get_or_default (falling a (suc t) c) k d 0 h ∙ falling_at c a (suc t) k (omega (arith, h, length-falling c a (suc t)))

up_lt : (i j t : ℕ) → i < j → IsTrue (comes_before (pos i) (pos j) (pos (suc t)))
up_lt i j t h = up_is i j t h

down_lt : (i j t : ℕ) → j < i → IsTrue (comes_before (pos i) (pos j) (negsuc t))
down_lt i j t h = grind (arith, nat_tests)

inside_up : (n a b t : ℕ) → b ≤ n → All (λ i. i < n) (rising a (suc t) (how_many a b (suc t)))
inside_up n a b t h = λ k d within.
    let c : ℕ = how_many a b (suc t) in
    let below_end = how_many_below a b t k (omega (arith, within, length-rising c a (suc t))) in
    rw (read_up a t c k d within) (omega arith)

ordered_up : (a t c : ℕ) → AllPairs (λ i j. IsTrue (comes_before (pos i) (pos j) (pos (suc t)))) (rising a (suc t) c)
ordered_up a t c = λ i j d before within.
    let more = further i j t before in
    rw (read_up a t c i d (omega arith), read_up a t c j d within) (up_lt (a + i * suc t) (a + j * suc t) t (omega arith))

inside_down : (n a b t : ℕ) → a ≤ n → All (λ i. i < n) (falling a (suc t) (how_many b a (suc t)))
inside_down n a b t h = λ k d within.
    let c : ℕ = how_many b a (suc t) in
    let below_end = how_many_below b a t k (omega (arith, within, length-falling c a (suc t))) in
    rw (read_down a t c k d within) (omega arith)

ordered_down : (a b t : ℕ) → AllPairs (λ i j. IsTrue (comes_before (pos i) (pos j) (negsuc t))) (falling a (suc t) (how_many b a (suc t)))
ordered_down a b t = λ i j d before within.
    let c : ℕ = how_many b a (suc t) in
    let more = further i j t before in
    let below_end = how_many_below b a t j (omega (arith, within, length-falling c a (suc t))) in
    rw (read_down a t c i d (omega arith), read_down a t c j d within) (down_lt (a - 1 - i * suc t) (a - 1 - j * suc t) t (omega arith))

pub picks_are : (n : ℕ) (start stop : Option ℤ) (step : ℤ) → step ≢ pos 0 → PicksAre n start stop step
picks_are n start stop (pos zero) moves = absurd (moves refl)
picks_are n start stop (pos (suc t)) moves =
    let a = start_up n t start in
    let b = stop_up n t stop in
    let list = picks_up n t a.at b.at start stop a.is b.is b.within in
    record {
      members = λ i. rw (list, a.is, b.is) (members_up a.at b.at t i);
      inside = rw list (inside_up n a.at b.at t b.within);
      ordered = rw list (ordered_up a.at t (how_many a.at b.at (suc t)));
    }
picks_are n start stop (negsuc t) moves =
    let a = start_down n t start in
    let b = stop_down n t stop in
    let list = picks_down n t a.top b.top start stop a.is b.is a.within in
    record {
      members = λ i. rw (list, a.is, b.is) (members_down a.top b.top t i);
      inside = rw list (inside_down n a.top b.top t a.within);
      ordered = rw list (ordered_down a.top b.top t);
    }

-- ---- spans

-- The indices of a span lie in it.
pub span_within : (low high : ℕ) (step : ℤ) → step ≢ pos 0 → All (λ i. (low ≤ i) × (i < high)) (picks_in_span low high step)
span_within low high (pos zero) moves = absurd (moves refl)
span_within low high (pos (suc t)) moves =
    let c : ℕ = how_many low high (suc t) in
    rw (span_rises low high t)
    (λ k d within.
    let below_end = how_many_below low high t k (omega (arith, within, length-rising c low (suc t))) in
    rw (read_up low t c k d within) (omega arith, omega arith))
span_within low high (negsuc t) moves =
    let c : ℕ = how_many low high (suc t) in
    rw (span_falls low high t)
    (λ k d within.
    let below_end = how_many_below low high t k (omega (arith, within, length-falling c high (suc t))) in
    rw (read_down high t c k d within) (omega arith, omega arith))

pub span_picks_are : (low high : ℕ) (step : ℤ) → step ≢ pos 0 → SpanPicksAre low high step
span_picks_are low high step moves =
    record {
      run = sym (run-span low high step (how_many low high (nat_abs step)) moves (sym (length-picks_in_span low high step moves)));
      within = span_within low high step moves;
    }

-- The bounds are two places from 0 to n.
placed_up : (n a b : ℕ) (start stop : ℤ) → start ≡ pos a → stop ≡ pos b → a ≤ n → b ≤ n → (nat_abs start ≤ max (nat_abs start) (nat_abs stop)) × (max (nat_abs start) (nat_abs stop) ≤ n)
placed_up n a b start stop p q from to = rw (p, q) (omega arith, omega (arith, from, to))

-- The bounds follow two places from -1 to n - 1.
placed_down : (n a b : ℕ) (start stop : ℤ) → start ≡ below a → stop ≡ below b → a ≤ n → b ≤ n → (nat_abs (stop +ℤ pos 1) ≤ max (nat_abs (stop +ℤ pos 1)) (nat_abs (start +ℤ pos 1))) × (max (nat_abs (stop +ℤ pos 1)) (nat_abs (start +ℤ pos 1)) ≤ n)
placed_down n a b start stop p q from to = rw (p, q, nat_abs_above a, nat_abs_above b) (omega arith, omega (arith, from, to))

span_placed : (n : ℕ) (start stop : Option ℤ) (step : ℤ) → step ≢ pos 0
    → (span_start n (record { start = start; stop = stop; step = step }) ≤ span_end n (record { start = start; stop = stop; step = step })) × (span_end n (record { start = start; stop = stop; step = step }) ≤ n)
span_placed n start stop (pos zero) moves = absurd (moves refl)
span_placed n start stop (pos (suc t)) moves =
    let a = start_up n t start in
    let b = stop_up n t stop in
    placed_up n a.at b.at (start_of n start (pos (suc t))) (stop_of n stop (pos (suc t))) a.is b.is a.within b.within
span_placed n start stop (negsuc t) moves =
    let a = start_down n t start in
    let b = stop_down n t stop in
    placed_down n a.top b.top (start_of n start (negsuc t)) (stop_of n stop (negsuc t)) a.is b.is a.within b.within

pub has_span : (n : ℕ) (parts : SliceParts) → parts.step ≢ pos 0 → HasSpan n parts
has_span n parts moves =
    let placed = span_placed n parts.start parts.stop parts.step moves in
    record { ordered = placed.0; inside = placed.1; same = picks_span n parts moves }

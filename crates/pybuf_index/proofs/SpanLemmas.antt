-- A slice's indices lie in its span, and they are a run of numbers.
use Rattle.std.proofs.Common.{◌≡◌, ◌≢◌, ℕ, zero, suc, ◌+◌, ◌-◌, ◌*◌, ◌/◌, ◌%◌, ◌<◌, ◌≤◌, Bool, true, false, [], ◌∷◌, ◌++◌, length, ℤ, pos, negsuc, refl, ap, sym, ◌∙◌, arith, reverse, inl, inr, Option, None, Some}
use Rattle.std.specs.Prelude.{◌+ℤ◌, nat_abs, max, slice_index}
use Rattle.std.specs.List.Sorted.{IsStrictlyIncreasing}
use Rattle.std.proofs.Math.Nat.{suc-mul}
use Rattle.std.proofs.lemmas.Int.{ints, clamps}
use Rattle.std.proofs.lemmas.Nat.{div-add-mod'}
use Rattle.std.proofs.lemmas.Bool.{cases_lt}
use Rattle.pybuf_index.specs.Facts.{how_many_none, how_many_some, length-rising, rising_push, greatest_first}
use Rattle.pybuf_index.specs.Picks.{adjusted_part, start_of, stop_of, picks, is_negative}
use Rattle.pybuf_index.specs.Parts.{SliceParts, picks_of}
use Rattle.pybuf_index.specs.Runs.{rising, run_low, run_of, how_many, picks_in_span, span_start, span_limit, span_end, signed_step}
use Rattle.pybuf_index.proofs.StepLemmas.{below, below-is, steps_up, steps_down, falling, falling-is}

-- a place from 0 to n
pub record UpTo (n : ℕ) (z : ℤ) : Type 0 where
  pub at : ℕ
  pub is : z ≡ pos at
  pub within : at ≤ n

-- a place from -1 to n - 1
pub record DownFrom (n : ℕ) (z : ℤ) : Type 0 where
  pub top : ℕ
  pub is : z ≡ below top
  pub within : top ≤ n

pub adjusted_up : (n t : ℕ) (a : ℤ) → UpTo n (adjusted_part n (pos (suc t)) a)
adjusted_up n t (pos a) =
    elim (cases_lt n a) [
      | inl far ↦ record { at = n; is = omega (arith, ints, clamps); within = omega arith }
      | inr near ↦ record { at = a; is = omega (arith, ints, clamps); within = near }
    ]
adjusted_up n t (negsuc a) =
    elim (cases_lt a n) [
      | inl inside ↦ record { at = n - suc a; is = omega (arith, ints, clamps); within = omega arith }
      | inr under ↦ record { at = 0; is = omega (arith, ints, clamps); within = omega arith }
    ]

pub adjusted_down : (n t : ℕ) (a : ℤ) → DownFrom n (adjusted_part n (negsuc t) a)
adjusted_down zero t (pos a) = record { top = 0; is = refl; within = omega arith }
adjusted_down (suc n) t (pos a) =
    elim (cases_lt n a) [
      | inl far ↦ record { top = suc n; is = omega (arith, ints, clamps); within = omega arith }
      | inr near ↦ record { top = suc a; is = omega (arith, ints, clamps); within = omega arith }
    ]
adjusted_down n t (negsuc a) =
    elim (cases_lt a n) [
      | inl inside ↦ record { top = n - a; is = rw (← below-is (n - a)) (omega (arith, ints, clamps)); within = omega arith }
      | inr under ↦ record { top = 0; is = omega (arith, ints, clamps); within = omega arith }
    ]

pub start_up : (n t : ℕ) (part : Option ℤ) → UpTo n (start_of n part (pos (suc t)))
start_up n t None = record { at = 0; is = refl; within = omega arith }
start_up n t (Some a) = adjusted_up n t a

pub stop_up : (n t : ℕ) (part : Option ℤ) → UpTo n (stop_of n part (pos (suc t)))
stop_up n t None = record { at = n; is = refl; within = omega arith }
stop_up n t (Some a) = adjusted_up n t a

pub start_down : (n t : ℕ) (part : Option ℤ) → DownFrom n (start_of n part (negsuc t))
start_down n t None = record { top = n; is = below-is n; within = omega arith }
start_down n t (Some a) = adjusted_down n t a

pub stop_down : (n t : ℕ) (part : Option ℤ) → DownFrom n (stop_of n part (negsuc t))
stop_down n t None = record { top = 0; is = refl; within = omega arith }
stop_down n t (Some a) = adjusted_down n t a

-- ---- spans

pub span_rises : (low high t : ℕ) → picks_in_span low high (pos (suc t)) ≡ rising low (suc t) (how_many low high (suc t))
unfolding picks_in_span
span_rises low high t = steps_up (high - low) low high t (omega arith)

pub span_falls : (low high t : ℕ) → picks_in_span low high (negsuc t) ≡ falling high (suc t) (how_many low high (suc t))
unfolding picks_in_span
span_falls low high t = rw (below-is low, below-is high) (steps_down (high - low) low high t (omega arith))

pub how_many_max : (low high s : ℕ) → how_many low (max low high) s ≡ how_many low high s
how_many_max low high s =
    elim (cases_lt low high) [
      | inl under ↦ let e : max low high ≡ high = omega arith in ap (λ x. how_many low x s) e
      | inr over ↦ let e : max low high ≡ low = omega arith in
          ap (λ x. how_many low x s) e ∙ how_many_none low low s (omega arith) ∙ sym (how_many_none low high s over)
    ]

pub picks_up : (n t a b : ℕ) (start stop : Option ℤ) → start_of n start (pos (suc t)) ≡ pos a → stop_of n stop (pos (suc t)) ≡ pos b → b ≤ n → picks n start stop (pos (suc t)) ≡ rising a (suc t) (how_many a b (suc t))
unfolding picks
picks_up n t a b start stop p q h = rw (p, q) (steps_up n a b t (omega arith))

pub picks_down : (n t a b : ℕ) (start stop : Option ℤ) → start_of n start (negsuc t) ≡ below a → stop_of n stop (negsuc t) ≡ below b → a ≤ n → picks n start stop (negsuc t) ≡ falling a (suc t) (how_many b a (suc t))
unfolding picks
picks_down n t a b start stop p q h = rw (p, q) (steps_down n b a t (omega arith))

pub nat_abs_above : (n : ℕ) → nat_abs (below n +ℤ pos 1) ≡ n
nat_abs_above zero = refl
nat_abs_above (suc n) = omega arith

falling_max : (low high t : ℕ) → falling (max low high) (suc t) (how_many low high (suc t)) ≡ falling high (suc t) (how_many low high (suc t))
falling_max low high t =
    elim (cases_lt low high) [
      | inl under ↦ let e : max low high ≡ high = omega arith in ap (λ x. falling x (suc t) (how_many low high (suc t))) e
      | inr over ↦ rw (how_many_none low high (suc t) over) refl
    ]

-- The indices of a slice are those of its span.
pub picks_span_at : (n : ℕ) (start stop : Option ℤ) (step : ℤ) → step ≢ pos 0 → picks_in_span (span_start n (record { start = start; stop = stop; step = step })) (span_end n (record { start = start; stop = stop; step = step })) step ≡ picks n start stop step
picks_span_at n start stop (pos zero) h = absurd (h refl)
picks_span_at n start stop (pos (suc t)) h =
    let a = start_up n t start in
    let b = stop_up n t stop in
    rw (a.is, b.is, picks_up n t a.at b.at start stop a.is b.is b.within) (span_rises a.at (max a.at b.at) t ∙ ap (rising a.at (suc t)) (how_many_max a.at b.at (suc t)))
picks_span_at n start stop (negsuc t) h =
    let a = start_down n t start in
    let b = stop_down n t stop in
    rw (a.is, b.is, nat_abs_above a.top, nat_abs_above b.top, picks_down n t a.top b.top start stop a.is b.is a.within)
    (span_falls b.top (max b.top a.top) t ∙ ap (falling (max b.top a.top) (suc t)) (how_many_max b.top a.top (suc t)) ∙ falling_max b.top a.top t)

pub picks_span : (n : ℕ) (parts : SliceParts) → parts.step ≢ pos 0 → picks_in_span (span_start n parts) (span_end n parts) parts.step ≡ picks_of n parts
picks_span n parts h = picks_span_at n parts.start parts.stop parts.step h

-- ---- how many indices

pub length-falling : (k top s : ℕ) → length (falling top s k) ≡ k
length-falling zero top s = refl
length-falling (suc k) top s = ap suc (length-falling k (top - s) s)

pub length-picks_in_span : (low high : ℕ) (step : ℤ) → step ≢ pos 0 → length (picks_in_span low high step) ≡ how_many low high (nat_abs step)
length-picks_in_span low high (pos zero) h = absurd (h refl)
length-picks_in_span low high (pos (suc t)) h = ap length (span_rises low high t) ∙ length-rising (how_many low high (suc t)) low (suc t)
length-picks_in_span low high (negsuc t) h = ap length (span_falls low high t) ∙ length-falling (how_many low high (suc t)) high (suc t)

-- the indices of the span that the code computes, part by part
pub picks_of_span : (n : ℕ) (start stop : Option ℤ) (s step : ℤ) (low limit high : ℕ) → s ≢ pos 0 → step ≡ s → low ≡ span_start n (record { start = start; stop = stop; step = step }) → limit ≡ span_limit n (record { start = start; stop = stop; step = step }) → high ≡ max low limit → picks_in_span low high step ≡ picks n start stop s
picks_of_span n start stop s step low limit high moves e a b h =
    rw (h, a, b, e) (picks_span_at n start stop s moves)

pub count_of_span : (n : ℕ) (start stop : Option ℤ) (s step : ℤ) (low limit high stride count : ℕ) → s ≢ pos 0 → step ≡ s → low ≡ span_start n (record { start = start; stop = stop; step = step }) → limit ≡ span_limit n (record { start = start; stop = stop; step = step }) → high ≡ max low limit → stride ≡ nat_abs step → count ≡ how_many low high stride → count ≡ length (picks n start stop s)
count_of_span n start stop s step low limit high stride count moves e a b h t c =
    let steps : step ≢ pos 0 = λ zero_step. moves (sym e ∙ zero_step) in
    c ∙ ap (how_many low high) t ∙ sym (length-picks_in_span low high step steps) ∙ ap length (picks_of_span n start stop s step low limit high moves e a b h)

-- The last of them is still below the end.
pub last_below : (low high t k : ℕ) → suc k ≡ how_many low high (suc t) → low + k * suc t < high
last_below low high t k h =
    elim (cases_lt low high) [
      | inl under ↦
          let e : k ≡ (high - low - 1) / suc t = omega (arith, h ∙ how_many_some low high (suc t) under) in
          let d : (high - low - 1) / suc t * suc t + (high - low - 1) % suc t ≡ high - low - 1 = div-add-mod' (high - low - 1) (suc t) in
          rw e (omega (arith, d))
      | inr over ↦ absurd (omega (arith, h ∙ how_many_none low high (suc t) over))
    ]

-- ---- the run of a span's indices

pub run-span : (low high : ℕ) (step : ℤ) (count : ℕ) → step ≢ pos 0 → count ≡ length (picks_in_span low high step) → run_of (is_negative step) (run_low (is_negative step) low high (nat_abs step) count) (nat_abs step) count ≡ picks_in_span low high step
run-span low high (pos zero) count h c = absurd (h refl)
run-span low high (pos (suc t)) count h c =
    let e : count ≡ how_many low high (suc t) = c ∙ length-picks_in_span low high (pos (suc t)) h in
    ap (rising low (suc t)) e ∙ sym (span_rises low high t)
run-span low high (negsuc t) zero h c =
    let e : zero ≡ how_many low high (suc t) = c ∙ length-picks_in_span low high (negsuc t) h in
    ap (falling high (suc t)) e ∙ sym (span_falls low high t)
run-span low high (negsuc t) (suc k) h c =
    let e : suc k ≡ how_many low high (suc t) = c ∙ length-picks_in_span low high (negsuc t) h in
    let b : low + k * suc t < high = last_below low high t k e in
    let top : high ≡ (high - 1 - k * suc t) + k * suc t + 1 = omega (arith, b) in
    let one : suc k - 1 ≡ k = omega arith in
    ap (λ x. reverse (rising (high - 1 - x * suc t) (suc t) (suc k))) one
    ∙ sym (falling-is k (high - 1 - k * suc t) (suc t) high top)
    ∙ ap (falling high (suc t)) e ∙ sym (span_falls low high t)

nat_last : (low high t k : ℕ) → suc k ≡ how_many low high (suc t) → low + (suc k - 1) * suc t < high
nat_last low high t k h =
    let one : suc k - 1 ≡ k = omega arith in rw one (last_below low high t k h)

-- The last of the indices lies in the span.
pub last_in_span : (low high : ℕ) (step : ℤ) (count : ℕ) → step ≢ pos 0 → 0 < count → count ≡ length (picks_in_span low high step) → low + (count - 1) * nat_abs step < high
last_in_span low high (pos zero) count moves some c = absurd (moves refl)
last_in_span low high (pos (suc t)) zero moves some c = absurd (omega arith)
last_in_span low high (pos (suc t)) (suc k) moves some c = nat_last low high t k (c ∙ length-picks_in_span low high (pos (suc t)) moves)
last_in_span low high (negsuc t) zero moves some c = absurd (omega arith)
last_in_span low high (negsuc t) (suc k) moves some c = nat_last low high t k (c ∙ length-picks_in_span low high (negsuc t) moves)

pub run_fits : (low high : ℕ) (step : ℤ) (count : ℕ) → step ≢ pos 0 → low ≤ high → count ≡ length (picks_in_span low high step) → low + (count - 1) * nat_abs step ≤ high
run_fits low high step zero moves ordered c =
    let none : zero - 1 ≡ 0 = omega arith in rw none (omega arith)
run_fits low high step (suc k) moves ordered c =
    let inside = last_in_span low high step (suc k) moves (omega arith) c in omega arith

pub run_of_span : (low high : ℕ) (step : ℤ) (count least stride : ℕ) (falls : Bool) → step ≢ pos 0 → count ≡ length (picks_in_span low high step) → least ≡ run_low falls low high stride count → stride ≡ nat_abs step → falls ≡ is_negative step → run_of falls least stride count ≡ picks_in_span low high step
run_of_span low high step count least stride falls moves c l s f =
    rw (l, s, f) (run-span low high step count moves c)

-- the same for a stride up or down
pub run_of_stride : (low high stride count least : ℕ) (falls : Bool) → 0 < stride → count ≡ how_many low high stride → least ≡ run_low falls low high stride count → run_of falls least stride count ≡ picks_in_span low high (signed_step falls stride)
run_of_stride low high zero count least falls some c l = absurd (omega arith)
run_of_stride low high (suc t) count least false some c l =
    let moves : pos (suc t) ≢ pos 0 = λ e. omega (arith, ints, e) in
    run_of_span low high (pos (suc t)) count least (suc t) false moves (c ∙ sym (length-picks_in_span low high (pos (suc t)) moves)) l refl refl
run_of_stride low high (suc t) count least true some c l =
    let moves : negsuc t ≢ pos 0 = λ e. omega (arith, ints, e) in
    run_of_span low high (negsuc t) count least (suc t) true moves (c ∙ sym (length-picks_in_span low high (negsuc t) moves)) l refl refl

-- ---- numbers that are taken from a run

pub run_top_first : (falls : Bool) (low s k : ℕ) → falls ≡ true → k ≢ 0 → run_of falls low s k ≡ (low + (k - 1) * s) ∷ run_of falls low s (k - 1)
run_top_first falls low s zero f some = absurd (some refl)
run_top_first falls low s (suc k) f some =
    let one : suc k - 1 ≡ k = omega arith in rw (f, one) (greatest_first k low s)

pub run_top_last : (falls : Bool) (low s k : ℕ) → falls ≡ false → k ≢ 0 → run_of falls low s k ≡ run_of falls low s (k - 1) ++ (low + (k - 1) * s) ∷ []
run_top_last falls low s zero f some = absurd (some refl)
run_top_last falls low s (suc k) f some =
    let one : suc k - 1 ≡ k = omega arith in rw (f, one) (rising_push k low s)

pub rising_at : (k low s i : ℕ) → i < k → slice_index (rising low s k) i ≡ low + i * s
rising_at zero low s i h = absurd (omega arith)
rising_at (suc k) low s zero h = grind arith
rising_at (suc k) low s (suc i) h = rising_at k (low + s) s i (omega arith) ∙ grind (arith, suc-mul i s)

pub rising-increases : (k low s : ℕ) → 0 < s → IsStrictlyIncreasing (rising low s k)
rising-increases k low s h = λ i inside.
    let n = length-rising k low s in
    let a = rising_at k low s i (omega (arith, n)) in
    let b = rising_at k low s (i + 1) (omega (arith, n)) in
    rw (a, b) (grind (arith, suc-mul i s))

-- Facts about the definitions of this crate, with their proofs, for the proofs of the crates above.
use Rattle.std.proofs.Common.{◌≡◌, ℕ, zero, suc, ◌+◌, ◌≤◌, pos, Bool, true, false, List, [], ◌∷◌, ap, ◌∙◌, refl, arith, ◌-◌, ℤ, ap₂, ◌≢◌, subst, length, ◌/◌, ◌<◌, ◌*◌, ◌++◌, reverse, ◌≤ℤ◌, ◌<ℤ◌, ◌-ℤ◌, ◌^◌, SFits, w64, nat_abs, inl, inr}
use Rattle.std.specs.Prelude.{nat_lt, ◌+ℤ◌, if◌then◌else◌, Some, min, negsuc, IfOk, Option, Result, Ok, Err, int_lt}
use Rattle.std.specs.List.{range_with_len}
use Rattle.std.proofs.lemmas.Int.{ints, clamps}
use Rattle.std.proofs.lemmas.List.{length-reverse, reverse-append}
use Rattle.std.proofs.lemmas.Bool.Decides.{nat_tests}
use Rattle.std.proofs.Math.Nat.{suc-mul, div-one}
use Rattle.std.proofs.lemmas.Grind.{common_steps}
use Rattle.std.proofs.lemmas.Bool.{cases_lt}
use Rattle.pybuf_lemmas.proofs.Lists.{walk_on, length_if}
use Rattle.pybuf_lemmas.proofs.Integers.{upward_stays_nonnegative, downward_stays_below, back_and_forth}
use Rattle.pybuf_lemmas.proofs.Numbers.{low_first, high_first}
use Rattle.pybuf_value.specs.declared.values.Scalar.{Scalar}
use Rattle.pybuf_value.specs.declared.faults.Fault.{Fault}
use Rattle.pybuf_value.specs.Refusing.{◌>>=◌, IfDone, done_bind}
use Rattle.pybuf_value.specs.declared.values.PySlice.{PySlice}
use Rattle.pybuf_value.specs.Numbers.{number_in}
use Rattle.pybuf_value.specs.Facts.{done_holds}
use Rattle.pybuf_index.specs.Picks.{steps_to, start_of, stop_of, picks, is_negative, comes_before}
use Rattle.pybuf_index.specs.Parts.{nearest_word, nonzero, step_in, clamped_parts, SliceParts, part_in, saturated_parts_of, parts_of}
use Rattle.pybuf_index.specs.Runs.{rising, run_of, how_many, picks_in_span}
use Rattle.pybuf_index.specs.Places.{entry_in}
use Rattle.pybuf_value.specs.declared.values.Scalar.TheVariants as scalar

pub steps_rise : (most s count : ℕ) → count ≤ most → steps_to most (pos s) (pos (s + count)) (pos 1) ≡ range_with_len s count
steps_rise zero s zero within = refl
steps_rise zero s (suc count) within = absurd (omega (arith, within))
steps_rise (suc most) s zero within =
    let done : nat_lt s (s + 0) ≡ false = grind arith in
    ap (λ (more : Bool). if more then s ∷ steps_to most (pos s +ℤ pos 1) (pos (s + 0)) (pos 1) else []) done
steps_rise (suc most) s (suc count) within =
    let more : nat_lt s (s + suc count) ≡ true = grind arith in
    let far : s + suc count ≡ s + 1 + count = omega arith in
    ap (λ (b : Bool). if b then s ∷ steps_to most (pos s +ℤ pos 1) (pos (s + suc count)) (pos 1) else []) more
    ∙ ap (λ (end : ℕ). s ∷ steps_to most (pos s +ℤ pos 1) (pos end) (pos 1)) far
    ∙ ap (λ (rest : List ℕ). s ∷ rest) (steps_rise most (s + 1) count (omega (arith, within)))

pub picks_between : (n start end : ℕ) → start ≤ end → end ≤ n → picks n (Some (pos start)) (Some (pos end)) (pos 1) ≡ range_with_len start (end - start)
unfolding picks
picks_between n start end order inside =
    let first : start_of n (Some (pos start)) (pos 1) ≡ pos start = omega (arith, ints, clamps, order, inside) in
    let last : stop_of n (Some (pos end)) (pos 1) ≡ pos end = omega (arith, ints, clamps, inside) in
    let far : end ≡ start + (end - start) = omega (arith, order) in
    ap₂ (λ (a b : ℤ). steps_to n a b (pos 1)) first last
    ∙ ap (λ (k : ℕ). steps_to n (pos start) (pos k) (pos 1)) far
    ∙ steps_rise n start (end - start) (omega (arith, order, inside))

pub nearest_word_nonzero : (z : ℤ) → z ≢ pos 0 → nearest_word z ≢ pos 0
nearest_word_nonzero (pos zero) h e = h refl
nearest_word_nonzero (pos (suc n)) h e = let z : min (suc n) 9223372036854775807 ≡ 0 = cc in omega arith
nearest_word_nonzero (negsuc n) h e = cc

pub if_ok_nonzero : (z : ℤ) → IfOk (nonzero z) (λ s. s ≢ pos 0)
if_ok_nonzero (pos zero) = tt
if_ok_nonzero (pos (suc n)) = λ e. omega (arith, ints, e)
if_ok_nonzero (negsuc n) = λ e. omega (arith, ints, e)

pub if_ok_step_moves : (s : Scalar) → IfOk (step_in s) (λ step. step ≢ pos 0)
if_ok_step_moves scalar.None = λ e. omega (arith, ints, e)
if_ok_step_moves (scalar.Bool true) = λ e. omega (arith, ints, e)
if_ok_step_moves (scalar.Bool false) = tt
if_ok_step_moves (scalar.Int n) = if_ok_nonzero n
if_ok_step_moves (scalar.Text t) = tt
if_ok_step_moves (scalar.Bytes b) = tt
if_ok_step_moves scalar.Ellipsis = tt
if_ok_step_moves (scalar.Handle h) = tt

pub chain_moves : (step : Result ℤ Fault) (start stop : Result (Option ℤ) Fault) → IfOk step (λ s. s ≢ pos 0) →
    IfOk (step >>= (λ s. start >>= (λ a. stop >>= (λ o. Ok (record { start = a; stop = o; step = s })))) >>= (λ parts. Ok (clamped_parts parts)))
    (λ parts. parts.step ≢ pos 0)
chain_moves (Err f) start stop moves = tt
chain_moves (Ok s) (Err f) stop moves = tt
chain_moves (Ok s) (Ok a) (Err f) moves = tt
chain_moves (Ok s) (Ok a) (Ok o) moves = nearest_word_nonzero s moves

pub slice_parts_move : (s : PySlice) (parts : SliceParts) → saturated_parts_of s ≡ Ok parts → parts.step ≢ pos 0
slice_parts_move s parts is =
    subst (λ (r : Result SliceParts Fault). IfOk r (λ p. p.step ≢ pos 0)) is
    (chain_moves (step_in s.step) (part_in s.start) (part_in s.stop) (if_ok_step_moves s.step))

pub length-rising : (k low s : ℕ) → length (rising low s k) ≡ k
length-rising zero low s = refl
length-rising (suc k) low s = ap suc (length-rising k (low + s) s)

pub length_rising : (x s k : ℕ) → length (rising x s k) ≡ k
length_rising x s zero = refl
length_rising x s (suc k) = ap suc (length_rising (x + s) s k)

pub run_length : (falls : Bool) (x s k : ℕ) → length (run_of falls x s k) ≡ k
run_length true x s k = length-reverse (rising x s k) ∙ length_rising x s k
run_length false x s k = length_rising x s k

pub how_many_none : (low high stride : ℕ) → high ≤ low → how_many low high stride ≡ 0
how_many_none low high stride h = grind (arith, nat_tests)

pub how_many_some : (low high stride : ℕ) → low < high → how_many low high stride ≡ (high - low - 1) / stride + 1
how_many_some low high stride h = grind (arith, nat_tests)

pub rising_push : (n low s : ℕ) → rising low s (suc n) ≡ rising low s n ++ (low + n * s) ∷ []
rising_push zero low s = grind arith
rising_push (suc n) low s =
    let same : low + s + n * s ≡ low + suc n * s = grind (arith, suc-mul n s) in
    ap (λ (rest : List ℕ). low ∷ rest) (rising_push n (low + s) s)
    ∙ ap (λ x. low ∷ (rising (low + s) s n ++ x ∷ [])) same

pub greatest_first : (n low s : ℕ) → reverse (rising low s (suc n)) ≡ (low + n * s) ∷ reverse (rising low s n)
greatest_first n low s = ap reverse (rising_push n low s) ∙ reverse-append (rising low s n) ((low + n * s) ∷ [])

pub negative_is : (z : ℤ) → int_lt z (pos 0) ≡ is_negative z
negative_is (pos n) = grind (arith, nat_tests)
negative_is (negsuc n) = refl

pub inside_up : (n s : ℕ) (z stop : ℤ) → pos 0 ≤ℤ z → stop ≤ℤ pos n → comes_before z stop (pos s) ≡ true → (pos 0 ≤ℤ z) × (z <ℤ pos n)
inside_up n s z stop low high t = (low, grind (arith, ints))

pub inside_down : (n s : ℕ) (z stop : ℤ) → z <ℤ pos n → negsuc 0 ≤ℤ stop → comes_before z stop (negsuc s) ≡ true → (pos 0 ≤ℤ z) × (z <ℤ pos n)
inside_down n s z stop high low t = (grind (arith, ints), high)

-- indices one step apart, each below `n`; the first lies a step after `before`
abbrev pub Walks : ℕ → ℤ → ℤ → List ℕ → Type 0
Walks n step before [] = Unit {0}
Walks n step before (x ∷ xs) = (x < n) × (pos x ≡ before +ℤ step) × Walks n step (pos x) xs

pub walks_up : (n s most : ℕ) (before stop : ℤ) → pos 0 ≤ℤ (before +ℤ pos s) → stop ≤ℤ pos n → Walks n (pos s) before (steps_to most (before +ℤ pos s) stop (pos s))
walks_up n s zero before stop low high = tt
walks_up n s (suc most) before stop low high =
    let z : ℤ = before +ℤ pos s in
    walk_on n (pos s) before z (steps_to most (z +ℤ pos s) stop (pos s)) (comes_before z stop (pos s)) refl (inside_up n s z stop low high)
    (walks_up n s most z stop (upward_stays_nonnegative s z low) high)

pub walks_down : (n s most : ℕ) (before stop : ℤ) → (before +ℤ negsuc s) <ℤ pos n → negsuc 0 ≤ℤ stop → Walks n (negsuc s) before (steps_to most (before +ℤ negsuc s) stop (negsuc s))
walks_down n s zero before stop high low = tt
walks_down n s (suc most) before stop high low =
    let z : ℤ = before +ℤ negsuc s in
    walk_on n (negsuc s) before z (steps_to most (z +ℤ negsuc s) stop (negsuc s)) (comes_before z stop (negsuc s)) refl (inside_down n s z stop high low)
    (walks_down n s most z stop (downward_stays_below n s z high) low)

-- the first index of a span
abbrev pub span_first : ℕ → ℕ → ℤ → ℤ
span_first low high (pos s) = pos low
span_first low high (negsuc s) = pos high +ℤ negsuc 0

pub walks_span : (n low high : ℕ) (step : ℤ) → high ≤ n → Walks n step (span_first low high step -ℤ step) (picks_in_span low high step)
unfolding picks_in_span
walks_span n low high (pos s) h =
    subst (λ z. Walks n (pos s) (pos low -ℤ pos s) (steps_to (high - low) z (pos high) (pos s))) (back_and_forth (pos low) (pos s))
    (walks_up n s (high - low) (pos low -ℤ pos s) (pos high) (low_first low s) (omega (arith, ints)))
walks_span n low high (negsuc s) h =
    subst (λ z. Walks n (negsuc s) (pos high +ℤ negsuc 0 -ℤ negsuc s) (steps_to (high - low) z (pos low +ℤ negsuc 0) (negsuc s))) (back_and_forth (pos high +ℤ negsuc 0) (negsuc s))
    (walks_down n s (high - low) (pos high +ℤ negsuc 0 -ℤ negsuc s) (pos low +ℤ negsuc 0) (high_first high s n h) (omega (arith, ints)))

pub entry_below : (count : ℕ) (index : ℤ) (p : ℕ) → entry_in count index ≡ Ok p → p < count
entry_below count (pos n) p found = grind (arith, common_steps)
entry_below count (negsuc n) p found = grind (arith, common_steps)

pub nearest_word_fits : (z : ℤ) → SFits w64 z → nearest_word z ≡ z
nearest_word_fits (pos n) f = let h : n < 2 ^ 63 = f.sfits in ap (λ (k : ℕ). pos k) (let e : min n 9223372036854775807 ≡ n = omega arith in e)
nearest_word_fits (negsuc n) f = let h : n < 2 ^ 63 = f.sfits in ap (λ (k : ℕ). negsuc k) (let e : min n 9223372036854775807 ≡ n = omega arith in e)

pub length-steps : (most : ℕ) (index stop step : ℤ) → length (steps_to most index stop step) ≤ most
length-steps zero index stop step = omega arith
length-steps (suc most) index stop step = length_if (comes_before index stop step) (nat_abs index) (steps_to most (index +ℤ step) stop step) most (length-steps most (index +ℤ step) stop step)

pub how_many_one : (low high : ℕ) → how_many low high 1 ≡ high - low
how_many_one low high =
    elim (cases_lt low high) [
      | inl under ↦ rw (how_many_some low high 1 under, div-one (high - low - 1)) (omega arith)
      | inr over ↦ rw (how_many_none low high 1 over) (omega arith)
    ]

-- the step of a slice is not 0
pub nonzero_moves : (z : ℤ) → IfDone (λ (step : ℤ). step ≢ pos 0) (nonzero z)
nonzero_moves (pos zero) = tt
nonzero_moves (pos (suc n)) = λ e. omega (arith, ints, e)
nonzero_moves (negsuc n) = λ e. omega (arith, ints, e)

pub number_moves : (r : Result ℤ Fault) → IfDone (λ (step : ℤ). step ≢ pos 0) (r >>= nonzero)
number_moves (Ok z) = nonzero_moves z
number_moves (Err f) = tt

pub step_moves : (s : Scalar) → IfDone (λ (step : ℤ). step ≢ pos 0) (step_in s)
step_moves scalar.None = λ e. omega (arith, ints, e)
step_moves (scalar.Bool truth) = number_moves (number_in (scalar.Bool truth))
step_moves (scalar.Int n) = nonzero_moves n
step_moves (scalar.Text t) = tt
step_moves (scalar.Bytes b) = tt
step_moves scalar.Ellipsis = tt
step_moves (scalar.Handle h) = tt

pub slice_moves : (slice : PySlice) → IfDone (λ (parts : SliceParts). parts.step ≢ pos 0) (saturated_parts_of slice)
slice_moves slice =
    let P : SliceParts → Type 0 = λ parts. parts.step ≢ pos 0 in
    done_bind P (parts_of slice) _ (λ parts found.
    nearest_word_nonzero parts.step (done_holds P (parts_of slice) parts
    (done_bind P (step_in slice.step) _ (λ step at.
    done_bind P (part_in slice.start) _ (λ start _.
    done_bind P (part_in slice.stop) _ (λ stop _.
    done_holds (λ (z : ℤ). z ≢ pos 0) (step_in slice.step) step (step_moves slice.step) at)))) found))

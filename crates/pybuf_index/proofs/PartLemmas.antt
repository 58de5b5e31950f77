-- The parts of a slice, as they are and clamped.
use Rattle.std.proofs.Common.{◌≡◌, ◌≢◌, ℕ, ◌<◌, ◌^◌, ℤ, pos, sym, refl, ◌∙◌, Option, Result, Ok, Err}
use Rattle.std.specs.Prelude.{IfOk}
use Rattle.pybuf_index.specs.Facts.{if_ok_step_moves}
use Rattle.pybuf_value.specs.declared.faults.Fault.{Fault}
use Rattle.pybuf_value.specs.declared.values.PySlice.{PySlice}
use Rattle.pybuf_value.specs.Refusing.{◌>>=◌}
use Rattle.pybuf_index.specs.Picks.{start_of, stop_of, steps_to, picks}
use Rattle.pybuf_index.specs.Parts.{SliceParts, step_in, part_in, nearest_word, clamped_part, clamped_parts, picks_of}
use Rattle.pybuf_index.specs.Laws.{SameAsItsParts, IndicesAgree}
use Rattle.pybuf_index.proofs.LawLemmas.{same_when_clamped}

abbrev chosen : Result ℤ Fault → Result (Option ℤ) Fault → Result (Option ℤ) Fault → Result SliceParts Fault
chosen step start stop = step >>= (λ s. start >>= (λ a. stop >>= (λ b. Ok (record { start = a; stop = b; step = s }))))

steps-picks : (n : ℕ) (a b : Option ℤ) (s : ℤ) → steps_to n (start_of n a s) (stop_of n b s) s ≡ picks n a b s
unfolding picks
steps-picks n a b s = refl

agree_chosen : (n : ℕ) → n < 2 ^ 63 → (step : Result ℤ Fault) (start stop : Result (Option ℤ) Fault) → IfOk step (λ s. s ≢ pos 0) → IfOk (chosen step start stop >>= (λ parts. Ok (clamped_parts parts))) (λ saturated. IfOk {T = ℤ × ℤ × ℤ} (chosen step start stop >>= (λ parts. Ok (start_of n parts.start parts.step, stop_of n parts.stop parts.step, parts.step))) (λ at. steps_to n at.0 at.1 at.2 ≡ picks_of n saturated))
agree_chosen n h (Err e) start stop moves = tt
agree_chosen n h (Ok s) (Err e) stop moves = tt
agree_chosen n h (Ok s) (Ok a) (Err e) moves = tt
agree_chosen n h (Ok s) (Ok a) (Ok b) moves = steps-picks n a b s ∙ sym (same_when_clamped n a b s moves h)

pub indices_agree : (slice : PySlice) (n : ℕ) → IndicesAgree slice n
indices_agree slice n = λ h. agree_chosen n h (step_in slice.step) (part_in slice.start) (part_in slice.stop) (if_ok_step_moves slice.step)

pub same_from_parts : (slice : PySlice) (s : ℤ) (a b : Option ℤ) (v : SliceParts) → step_in slice.step ≡ Ok s → part_in slice.start ≡ Ok a → part_in slice.stop ≡ Ok b → v.start ≡ clamped_part a → v.stop ≡ clamped_part b → v.step ≡ nearest_word s → SameAsItsParts slice v
same_from_parts slice s a b v es ea eb va vb vs =
    let moves : IfOk (step_in slice.step) (λ step. step ≢ pos 0) = if_ok_step_moves slice.step in
    let nonzero_step : s ≢ pos 0 = rw es at moves in
    rw (es, ea, eb) (λ n h. rw (va, vb, vs) (same_when_clamped n a b s nonzero_step h))

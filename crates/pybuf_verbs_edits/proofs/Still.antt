-- Edits that leave the length as it is.
use Rattle.std.proofs.Common.{◌≡◌, ◌≢◌, ℕ, zero, suc, ◌+◌, ◌-◌, ◌*◌, ◌<◌, ◌≤◌, ℤ, pos, Bool, true, false, List, [], ◌∷◌, ◌++◌, length, take, drop, ap, sym, ◌∙◌, refl, arith, length-append}
use Rattle.std.specs.Prelude.{nat_lt, ◌==◌, ◌+ℤ◌, if◌then◌else◌, Result, Ok, Err, OnOk}
use Rattle.std.proofs.lemmas.Grind.{common_steps}
use Rattle.pybuf_value.specs.declared.halt.Halt.{Halt}
use Rattle.pybuf_command.specs.declared.commands.LocalReply.{LocalReply}
use Rattle.pybuf_index.specs.Picks.{steps_to}
use Rattle.pybuf_index.specs.Runs.{picks_in_span}
use Rattle.pybuf_slice.specs.Edits.{replaced_range, repeated_list}

-- ---- other bytes in place of a range, in another number

steps_long : (most s count : ℕ) → count ≤ most → length (steps_to most (pos s) (pos (s + count)) (pos 1)) ≡ count
steps_long zero s zero within = refl
steps_long zero s (suc count) within = absurd (omega (arith, within))
steps_long (suc most) s zero within =
    let done : nat_lt s (s + 0) ≡ false = grind arith in
    ap (λ (more : Bool). length (if more then s ∷ steps_to most (pos s +ℤ pos 1) (pos (s + 0)) (pos 1) else [])) done
steps_long (suc most) s (suc count) within =
    let more : nat_lt s (s + suc count) ≡ true = grind arith in
    let far : s + suc count ≡ s + 1 + count = omega arith in
    ap (λ (b : Bool). length (if b then s ∷ steps_to most (pos s +ℤ pos 1) (pos (s + suc count)) (pos 1) else [])) more
    ∙ ap (λ (end : ℕ). length (s ∷ steps_to most (pos s +ℤ pos 1) (pos end) (pos 1))) far
    ∙ ap suc (steps_long most (s + 1) count (omega (arith, within)))

pub span_long : (start end : ℕ) → start ≤ end → length (picks_in_span start end (pos 1)) ≡ end - start
unfolding picks_in_span
span_long start end order =
    let far : end ≡ start + (end - start) = omega (arith, order) in
    ap (λ (k : ℕ). length (steps_to (end - start) (pos start) (pos k) (pos 1))) far ∙ steps_long (end - start) start (end - start) (omega arith)

pub not_as_long : (old new bytes : List ℕ) (start end count : ℕ) (step : ℤ) → step ≡ pos 1 → start ≤ end → end ≤ length old → count ≡ length (picks_in_span start end step) → count ≢ length bytes → new ≡ replaced_range old start end bytes
    → length new ≡ length old → ⊥
not_as_long old new bytes start end count step one order inside counted other is same =
    let spans : count ≡ end - start = counted ∙ ap (λ (s : ℤ). length (picks_in_span start end s)) one ∙ span_long start end order in
    let long : length (take start old ++ (bytes ++ drop end old)) ≡ start + (length bytes + (length old - end)) = grind (arith, common_steps, order, inside) in
    let whole : length new ≡ start + (length bytes + (length old - end)) = ap length is ∙ long in
    other (omega (arith, spans, whole, same, order, inside))

-- ---- the bytes, repeated n times

repeated_long : (n : ℕ) (xs : List ℕ) → length (repeated_list n xs) ≡ length xs * n
repeated_long zero xs = let none : 0 ≡ length xs * 0 = grind arith in none
repeated_long (suc n) xs =
    let more : length xs + length xs * n ≡ length xs * suc n = grind arith in
    length-append xs (repeated_list n xs) ∙ ap (λ (k : ℕ). length xs + k) (repeated_long n xs) ∙ more

pub long_by : (old new : List ℕ) (n : ℕ) → new ≡ repeated_list n old → length new ≡ length old * n
long_by old new n is = ap length is ∙ repeated_long n old

one_time : (n t : ℕ) → 0 < n → n * t ≡ n → t ≡ 1
one_time n zero some same = let none : n * 0 ≡ 0 = grind arith in absurd (omega (arith, some, same, none))
one_time n (suc zero) some same = refl
one_time n (suc (suc t)) some same = let more : n * suc (suc t) ≡ n + (n + n * t) = grind arith in absurd (omega (arith, some, same, more))

pub not_empty : (n : ℕ) (b : Bool) → b ≡ (n == 0) → b ≡ false → 0 < n
not_empty zero b is some = absurd (cc)
not_empty (suc n) b is some = omega arith

-- Bytes that are repeated another number of times than 1 have another length.
pub other_times : (P : Type 0) (n m t : ℕ) (r : Result LocalReply Halt) → 0 < n → OnOk r (m ≡ n * t) → (t ≡ 1 → ⊥) → OnOk r (m ≡ n → P)
other_times P n m t (Ok x) some long other = λ same. absurd (other (one_time n t some (sym long ∙ same)))
other_times P n m t (Err h) some long other = long

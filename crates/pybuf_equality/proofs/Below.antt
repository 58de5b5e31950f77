-- Numbers that are tested one after the other.
use Rattle.std.proofs.Common.{◌≡◌, ℕ, zero, suc, ◌+◌, ◌-◌, ◌<◌, Bool, true, false, ap, ap₂, ◌∙◌, arith}
use Rattle.std.specs.Prelude.{◌&&◌}
use Rattle.pybuf_lemmas.proofs.Booleans.{and_false}
use Rattle.pybuf_equality.specs.Tracks.{all_below}

-- One more number passes.
pub more_below : (test : ℕ → Bool) (k : ℕ) → all_below test k ≡ true → test k ≡ true → all_below test (k + 1) ≡ true
more_below test k so_far here =
    let next : k + 1 ≡ suc k = omega arith in
    ap (all_below test) next ∙ ap₂ (λ (a b : Bool). a && b) so_far here

failed_after : (test : ℕ → Bool) (k d : ℕ) → test k ≡ false → all_below test (d + suc k) ≡ false
failed_after test k zero fails =
    let last : 0 + suc k ≡ suc k = omega arith in
    ap (all_below test) last ∙ ap (λ (b : Bool). all_below test k && b) fails ∙ and_false (all_below test k)
failed_after test k (suc d) fails =
    let next : suc d + suc k ≡ suc (d + suc k) = omega arith in
    ap (all_below test) next ∙ ap (λ (b : Bool). b && test (d + suc k)) (failed_after test k d fails)

-- If one number fails, not all pass.
pub failed_below : (test : ℕ → Bool) (k n : ℕ) → k < n → test k ≡ false → all_below test n ≡ false
failed_below test k n less fails =
    let far : n ≡ (n - suc k) + suc k = omega (arith, less) in
    ap (all_below test) far ∙ failed_after test k (n - suc k) fails

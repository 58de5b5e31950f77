-- What a test of the bytes between two bounds tells about an affix, and what a result tells about its outcome.
use Rattle.std.proofs.Common.{◌≡◌, refl, ℕ, Bool, List, Option, Some, Result, Ok, Err, sym, subst}
use Rattle.std.specs.Result.{IfOk}
use Rattle.pybuf_value.specs.declared.faults.Fault.{Fault}
use Rattle.pybuf_value.specs.declared.faults.Fault.TheVariants as fault
use Rattle.pybuf_value.specs.declared.faults.Outcome.{Outcome}
use Rattle.pybuf_value.specs.declared.halt.Halt.{Halt}
use Rattle.pybuf_value.specs.declared.halt.Halt.TheVariants as halt
use Rattle.pybuf_value.specs.declared.snaps.Snap.{Snap}
use Rattle.pybuf_value.specs.declared.values.Value.{Value}
use Rattle.pybuf_value.specs.Halting.{Gives, outcome_of}
use Rattle.pybuf_search.specs.Affixes.{single_or_any_of, test_in, IfGiven}

pub affix_decides : {E : Type 0} (test : List ℕ → List ℕ → Bool) (pairs : List (ℕ × Snap)) (affix asked : Value) (part : List ℕ) (cut : Option (List ℕ)) (result : Result (Outcome Bool) E)
    → affix ≡ asked → cut ≡ Some part
    → IfOk result (λ outcome. outcome ≡ outcome_of (single_or_any_of (test part) pairs affix))
    → IfOk result (λ outcome. outcome ≡ outcome_of (test_in test pairs asked cut))
affix_decides test pairs affix asked part cut result same between told =
    subst (λ c. IfOk result (λ outcome. outcome ≡ outcome_of (test_in test pairs asked c))) (sym between)
    (subst (λ v. IfOk result (λ outcome. outcome ≡ outcome_of (single_or_any_of (test part) pairs v))) same told)

-- What holds of a result holds of the result that an outcome has. If memory ran out, the outcome would be that
-- of every result, and no outcome is that of two.
pub given_outcome : {E X : Type 0} (P : Result X Fault → Type 0) (answer : Result X Halt) (result : Result (Outcome X) E)
    → ((wanted : Result X Fault) → Gives wanted answer → IfOk result (λ outcome. outcome ≡ outcome_of wanted))
    → IfGiven P answer
    → IfOk result (λ outcome. (given : Result X Fault) × (outcome ≡ outcome_of given) × P given)
given_outcome P (Ok x) (Ok outcome) told holds = (Ok x, told (Ok x) refl, holds)
given_outcome P (Err (halt.Refused f)) (Ok outcome) told holds = (Err f, told (Err f) refl, holds)
given_outcome P (Err halt.NoMemory) (Ok outcome) told holds =
    let kind : outcome ≡ outcome_of (Err fault.Kind) = told (Err fault.Kind) tt in
    let value : outcome ≡ outcome_of (Err fault.Value) = told (Err fault.Value) tt in
    absurd (cc)
given_outcome P answer (Err e) told holds = tt

-- What an answer gives if it is no refusal and memory suffices.
use Rattle.std.proofs.Common.{◌≡◌, Result, Ok, Err, ap, sym, subst}
use Rattle.std.specs.Prelude.{IfOk, IfErr}
use Rattle.pybuf_value.specs.declared.faults.Fault.{Fault}
use Rattle.pybuf_value.specs.declared.faults.Outcome.{Outcome}
use Rattle.pybuf_value.specs.declared.faults.Outcome.TheVariants as outcome
use Rattle.pybuf_value.specs.declared.halt.Halt.{Halt}
use Rattle.pybuf_value.specs.declared.halt.Halt.TheVariants as halt
use Rattle.pybuf_value.specs.Halting.{Gives, outcome_of}
use Rattle.pybuf_methods.specs.Given.{IsStopped}

abbrev done_or : {X : Type 0} → X → Outcome X → X
done_or x (outcome.Done y) = y
done_or x (outcome.Refused f) = x

abbrev fault_or : {X : Type 0} → Fault → Outcome X → Fault
fault_or f (outcome.Done y) = f
fault_or f (outcome.Refused g) = g

done_is : {X : Type 0} (wanted : Result X Fault) (v : X) → outcome_of wanted ≡ outcome.Done v → wanted ≡ Ok v
done_is (Ok x) v e = ap Ok (ap (done_or v) e)
done_is (Err f) v e = cc e

refused_is : {X : Type 0} (wanted : Result X Fault) (f : Fault) → outcome_of wanted ≡ outcome.Refused f → wanted ≡ Err f
refused_is (Ok x) f e = cc e
refused_is (Err g) f e = ap Err (ap (fault_or f) e)

pub gives : {X E : Type 0} (answer : Result (Outcome X) E) (result : Result X Halt) (wanted : Result X Fault) →
    IfOk answer (λ o. o ≡ outcome_of wanted) → IfOk result (λ v. answer ≡ Ok (outcome.Done v)) → IfErr result (λ h. IsStopped answer h) → Gives wanted result
gives answer (Ok v) wanted says done stopped = done_is wanted v (sym (subst (λ a. IfOk a (λ o. o ≡ outcome_of wanted)) done says))
gives answer (Err (halt.Refused f)) wanted says done stopped = refused_is wanted f (sym (subst (λ a. IfOk a (λ o. o ≡ outcome_of wanted)) stopped says))
gives answer (Err halt.NoMemory) wanted says done stopped = tt

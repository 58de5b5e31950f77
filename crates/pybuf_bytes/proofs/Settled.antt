-- Answers as single results.
use Rattle.std.proofs.Common.{◌≡◌, ℕ, List, Option, Result, Ok, Err, IfOk, sym, ap, ◌∙◌, subst}
use Rattle.pybuf_value.specs.declared.NoMemory.{NoMemory}
use Rattle.pybuf_value.specs.declared.faults.Fault.{Fault}
use Rattle.pybuf_value.specs.declared.faults.Outcome.{Outcome}
use Rattle.pybuf_value.specs.declared.halt.Halt.{Halt}
use Rattle.pybuf_value.specs.Halting.{Gives, outcome_of, given_by, stopped_by, done_by}
use Rattle.pybuf_value.specs.Settling.{given_gives}
use Rattle.pybuf_bytes.specs.Shaping.{decoded}

settled : {X : Type 0} (wanted : Result X Fault) (answer : Result (Outcome X) NoMemory) (r : Result X Halt) → IfOk answer (λ o. o ≡ outcome_of wanted) → r ≡ done_by given_by answer → Gives wanted r
settled wanted (Ok o) r h e = subst (Gives wanted) (sym (e ∙ ap (λ o. stopped_by (given_by o)) h)) (given_gives wanted)
settled wanted (Err _) r h e = subst (Gives wanted) (sym e) tt

-- bytes that are decoded by the names that are given for a codec and a handler of errors
pub decoded_by : (bytes : List ℕ) (codec handler codec_given handler_given : Option (List ℕ)) (answer : Result (Outcome (List ℕ)) NoMemory) (r : Result (List ℕ) Halt) → codec ≡ codec_given → handler ≡ handler_given → IfOk answer (λ o. o ≡ outcome_of (decoded bytes codec handler)) → r ≡ done_by given_by answer → Gives (decoded bytes codec_given handler_given) r
decoded_by bytes codec handler codec_given handler_given answer r p q h e =
    subst (λ c. Gives (decoded bytes c handler_given) r) p (subst (λ g. Gives (decoded bytes codec g) r) q (settled (decoded bytes codec handler) answer r h e))

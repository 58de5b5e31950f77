-- Answers as results, if their bytes or items stand in a vector.
use Rattle.std.specs.Prelude.{◌≡◌, List, Result, Ok, Err, refl}
use Rattle.std.specs.Global.{Vec}
use Rattle.pybuf_copy.specs.declared.memory.NoMemory.{NoMemory}
use Rattle.pybuf_value.specs.declared.faults.Fault.{Fault}
use Rattle.pybuf_value.specs.declared.faults.Outcome.{Outcome}
use Rattle.pybuf_value.specs.declared.faults.Outcome.TheVariants as outcome
use Rattle.pybuf_value.specs.declared.halt.Halt.{Halt}
use Rattle.pybuf_value.specs.Halting.{Answered, Gives, outcome_of, given_by, done_by}

-- a result has the items that a definition says, or its refusal; if memory runs out, nothing is said
abbrev pub GivesItems : {X : Type 0} → Result (List X) Fault → Result (Vec X) Halt → Type 0
GivesItems wanted result = Answered result (λ items. items.items) wanted

-- If an answer is turned into a result, the result is what the answer is. (This is a law of `done_by` that proofs cite.
-- It stands here since no contract can speak of every definition.)
pub given_gives : {X : Type 0} (wanted : Result X Fault) → Gives wanted (done_by given_by (Ok (outcome_of wanted)))
given_gives (Ok x) = refl
given_gives (Err f) = refl

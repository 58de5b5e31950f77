-- Results of calls that may be refused, or stop since memory runs out.
use Rattle.std.specs.Prelude.{◌≡◌, ℕ, List, Result, Ok, Err, Option, IfOk, MatchResult}
use Rattle.std.specs.Borrow.{Bor}
use Rattle.std.specs.Option.{option_copied}
use Rattle.std.specs.Global.{Vec}
use Rattle.pybuf_value.specs.declared.faults.Fault.{Fault}
use Rattle.pybuf_value.specs.declared.faults.Outcome.{Outcome}
use Rattle.pybuf_value.specs.declared.faults.Outcome.TheVariants as outcome
use Rattle.pybuf_copy.specs.declared.memory.NoMemory.{NoMemory}
use Rattle.pybuf_value.specs.declared.halt.Halt.{Halt}
use Rattle.pybuf_value.specs.declared.halt.Halt.TheVariants as halt

-- ---- one answer, of which all others below and above are forms

-- An answer is the one due, as `shown` tells what was given: done, refused with the fault due, or out of memory.
abbrev pub Answered : {X Y : Type 0} → Result Y Halt → (Y → X) → Result X Fault → Type 0
Answered (Ok y) shown due = due ≡ Ok (shown y)
Answered (Err (halt.Refused f)) shown due = due ≡ Err f
Answered (Err halt.NoMemory) shown due = Unit {0}

-- The same of a call that can change something. A refused call has `Kept` what it was lent, and `OutOfMemory` holds
-- where memory runs out.
abbrev pub Settled : {X Y : Type 0} → Result Y Halt → (Y → X) → Type 0 → Type 0 → Result X Fault → Type 0
Settled (Ok y) shown Kept OutOfMemory due = due ≡ Ok (shown y)
Settled (Err (halt.Refused f)) shown Kept OutOfMemory due = (due ≡ Err f) × Kept
Settled (Err halt.NoMemory) shown Kept OutOfMemory due = OutOfMemory

-- the same of a call that takes no memory: done or refused
abbrev pub AnsweredAtOnce : {X Y : Type 0} → Result Y Fault → (Y → X) → Result X Fault → Type 0
AnsweredAtOnce result shown due = MatchResult result (λ y. due ≡ Ok (shown y)) (λ f. due ≡ Err f)

-- the same of one that can change something
abbrev pub SettledAtOnce : {X Y : Type 0} → Result Y Fault → (Y → X) → Type 0 → Result X Fault → Type 0
SettledAtOnce result shown Kept due = MatchResult result (λ y. due ≡ Ok (shown y)) (λ f. (due ≡ Err f) × Kept)

-- a result is what a definition says, or its refusal; if memory runs out, nothing is said
abbrev pub Gives : {X : Type 0} → Result X Fault → Result X Halt → Type 0
Gives wanted result = Answered result (λ x. x) wanted

-- what is lent is what a definition says, or its refusal stands in its place
abbrev pub GivesLent : {X : Type 0} → Result X Fault → Result (Bor X) Fault → Type 0
GivesLent wanted result = AnsweredAtOnce result (λ x. x.now) wanted

-- the same of what may be missing
abbrev pub GivesLentOption : {X : Type 0} → Result (Option X) Fault → Result (Option (Bor X)) Fault → Type 0
GivesLentOption wanted result = AnsweredAtOnce result option_copied wanted

-- the answer of a call that may be refused
abbrev pub outcome_of : {X : Type 0} → Result X Fault → Outcome X
outcome_of (Ok x) = outcome.Done x
outcome_of (Err f) = outcome.Refused f

-- the answer of such a call, with the bytes of a vector as a list
abbrev pub items_of : Outcome (Vec ℕ) → Outcome (List ℕ)
items_of (outcome.Done bytes) = outcome.Done bytes.items
items_of (outcome.Refused f) = outcome.Refused f

-- a public call's outcome is what a definition says, or its refusal, unless memory runs out
abbrev pub GivesOutcome : {X E : Type 0} → Result X Fault → Result (Outcome X) E → Type 0
GivesOutcome wanted result = IfOk result (λ given. given ≡ outcome_of wanted)

-- the same, as `shown` tells the outcome
abbrev pub GivesOutcomeAs : {O X E : Type 0} → (O → Outcome X) → Result X Fault → Result O E → Type 0
GivesOutcomeAs shown wanted result = IfOk result (λ given. shown given ≡ outcome_of wanted)

-- the same of bytes in a vector
abbrev pub GivesOutcomeOfBytes : {E : Type 0} → Result (List ℕ) Fault → Result (Outcome (Vec ℕ)) E → Type 0
GivesOutcomeOfBytes wanted result = GivesOutcomeAs items_of wanted result

-- what is made is what a definition says, unless memory runs out
abbrev pub Makes : {X E : Type 0} → X → Result X E → Type 0
Makes wanted result = IfOk result (λ made. made ≡ wanted)

-- whether a call is refused, and why
abbrev pub refusal_of : {A : Type 0} → Result A Fault → Result (Unit {0}) Fault
refusal_of (Ok x) = Ok tt
refusal_of (Err f) = Err f

-- ---- answers as results

-- an answer as a result: what was done, or why it was refused
abbrev pub given_by : {X : Type 0} → Outcome X → Result X Fault
given_by (outcome.Done x) = Ok x
given_by (outcome.Refused f) = Err f

-- the same with a refusal among the causes that stop an effect
abbrev pub stopped_by : {X : Type 0} → Result X Fault → Result X Halt
stopped_by (Ok x) = Ok x
stopped_by (Err f) = Err (halt.Refused f)

-- the same for a call that may also stop since memory runs out
abbrev pub done_by : {O X : Type 0} → (O → Result X Fault) → Result O NoMemory → Result X Halt
done_by given (Ok o) = stopped_by (given o)
done_by given (Err _) = Err halt.NoMemory

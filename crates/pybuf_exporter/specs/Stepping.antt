-- What a call owes that carries a command out: the exporter after it and its reply are those of the definition.
use Rattle.std.specs.Prelude.{◌≡◌, ℕ, ℤ, true, List, [], Option, Result, IfOk, OnErr}
use Rattle.pybuf_value.specs.declared.faults.Fault.{Fault}
use Rattle.pybuf_value.specs.declared.halt.Halt.{Halt}
use Rattle.pybuf_value.specs.declared.values.Scalar.TheVariants as scalar
use Rattle.pybuf_value.specs.declared.values.Value.TheVariants as value
use Rattle.pybuf_command.specs.declared.kinds.Subject.{Subject}
use Rattle.pybuf_command.specs.declared.kinds.Subject.TheVariants as subject
use Rattle.pybuf_command.specs.declared.commands.Verb.{Verb}
use Rattle.pybuf_command.specs.declared.commands.Verb.TheVariants as verb
use Rattle.pybuf_command.specs.declared.commands.LocalReply.{LocalReply}
use Rattle.pybuf_command.specs.declared.commands.LocalCommand.{LocalCommand}
use Rattle.pybuf_command.specs.declared.loans.Loan.{Loan}
use Rattle.pybuf_state.specs.Exporter.{Exporter}
use Rattle.pybuf_state.specs.declared.parts.Parts.{Parts}
use Rattle.pybuf_state.specs.Answers.{exporter_of, Answers, Reads}
use Rattle.pybuf_exporter.specs.Step.{answer_of, estep, estep_by, settled_answer}
use Rattle.pybuf_exporter.specs.Owning.{reply_owns}
use Rattle.pybuf_exporter.specs.Stored.{StoredExporter}

-- a verb on a subject, with its loans, leads from one exporter to another and replies the result, if there is one
abbrev pub StepsBy : {E : Type 0} → Subject → Verb → List (ℕ × Loan) → Exporter → Result LocalReply E → Exporter → Type 0
StepsBy s v loans old result new = IfOk result (λ r. estep old s v loans ≡ (new, r))

-- the same by what each handle is lent as
abbrev pub StepsByNames : {E : Type 0} → Subject → Verb → (ℕ → Option Loan) → Exporter → Result LocalReply E → Exporter → Type 0
StepsByNames s v named old result new = IfOk result (λ r. estep_by old s v named ≡ (new, r))

-- a verb with its loans, of an exporter that is kept, whatever its room
abbrev pub StateStepsBy : {E : Type 0} → Subject → Verb → List (ℕ × Loan) → StoredExporter → Result LocalReply E → StoredExporter → Type 0
StateStepsBy s v loans old result new = StepsBy s v loans old.exporter result new.exporter

-- the exporter after a command, and its reply
abbrev pub step_of : Exporter → LocalCommand → Exporter × LocalReply
step_of e command = estep e command.subject command.verb command.loans

-- the exporter after a number is set as the item of a view at an index, and the reply
abbrev pub number_put : Exporter → ℕ → ℤ → ℤ → Exporter × LocalReply
number_put e view index number = estep e (subject.View view) (verb.Set (value.One (scalar.Int index)) (value.One (scalar.Int number))) []

-- a command leads from one exporter to another, and replies the result, if there is one
abbrev pub CarriesOut : {E : Type 0} → LocalCommand → Exporter → Result LocalReply E → Exporter → Type 0
CarriesOut command old result new = IfOk result (λ r. step_of old command ≡ (new, r))

-- the same where the result has the reply and a copy of it
abbrev pub CarriesOutTwice : {E : Type 0} → LocalCommand → Exporter → Result (LocalReply × LocalReply) E → Exporter → Type 0
CarriesOutTwice command old result new = IfOk result (λ r. step_of old command ≡ (new, r.0))

-- a command whose reply owns memory changes nothing
abbrev pub OwningChangesNothing : LocalCommand → Exporter → Type 0
OwningChangesNothing command e = reply_owns (step_of e command).1 ≡ true → (step_of e command).0 ≡ e

-- a verb on a subject, with its loans, of kept parts
abbrev pub AnswersBy : Subject → Verb → List (ℕ × Loan) → Parts → Result LocalReply Halt → Parts → Type 0
AnswersBy s v loans old result new = Answers (answer_of (exporter_of old) s v loans) (exporter_of old) result (exporter_of new)

-- ---- an effect that is carried out without a command

-- The answer of an effect on an exporter that is kept, with the exporter afterwards, whatever its room.
abbrev pub StateAnswers : StoredExporter → (Exporter → Result (Exporter × LocalReply) Fault) → Result LocalReply Halt → StoredExporter → Type 0
StateAnswers old effect result new = Answers (effect old.exporter) old.exporter result new.exporter

-- the same of an effect that only reads
abbrev pub StateReads : StoredExporter → (Exporter → Result (Exporter × LocalReply) Fault) → Result LocalReply Halt → Type 0
StateReads state effect result = Reads (effect state.exporter) state.exporter result

-- ---- how a command ends

-- whatever effect was answered, the result is its reply, and a refusal is a reply that changes nothing
abbrev pub Closes : {E : Type 0} → Result LocalReply Halt → Result LocalReply E → Type 0
Closes answer result = (effect : Result (Exporter × LocalReply) Fault) (old new : Exporter) → Answers effect old answer new → IfOk result (λ r. settled_answer old effect ≡ (new, r))

-- and where there is no result, the exporter is as it was
abbrev pub ClosesOnErr : {E : Type 0} → Result LocalReply Halt → Result LocalReply E → Type 0
ClosesOnErr answer result = (effect : Result (Exporter × LocalReply) Fault) (old new : Exporter) → Answers effect old answer new → OnErr result (new ≡ old)

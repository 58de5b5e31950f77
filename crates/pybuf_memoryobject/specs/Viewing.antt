-- Memoryviews: what a call answers that asks a subject for one.
use Rattle.std.specs.Prelude.{◌≡◌, ℕ, [], Ok, Err}
use Rattle.pybuf_value.specs.declared.faults.Outcome.{Outcome}
use Rattle.pybuf_value.specs.declared.faults.Outcome.TheVariants as outcome
use Rattle.pybuf_command.specs.declared.kinds.Subject.{Subject}
use Rattle.pybuf_command.specs.declared.commands.Verb.TheVariants as verb
use Rattle.pybuf_command.specs.declared.commands.LocalReply.TheVariants as reply
use Rattle.pybuf_state.specs.Exporter.{Exporter}
use Rattle.pybuf_exporter.specs.Step.{effect}

-- The exporter has one more view, which the effect of the verb `View` makes of the subject. If that effect
-- refuses, so does the call.
abbrev pub IsViewOf : Exporter → Subject → Exporter → Outcome ℕ → Type 0
IsViewOf old s new (outcome.Done k) = effect old s verb.View [] ≡ Ok (new, reply.View k)
IsViewOf old s new (outcome.Refused f) = (effect old s verb.View [] ≡ Err f) × (new ≡ old)

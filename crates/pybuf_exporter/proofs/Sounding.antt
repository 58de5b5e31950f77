-- A safe effect leaves a sound exporter sound, whatever it answers.
use Rattle.std.proofs.Common.{◌≡◌, sym, subst}
use Rattle.std.specs.Prelude.{ℕ, Option, Some, None, Result, Ok, Err}
use Rattle.pybuf_value.specs.declared.faults.Fault.{Fault}
use Rattle.pybuf_value.specs.declared.halt.Halt.{Halt}
use Rattle.pybuf_value.specs.declared.halt.Halt.TheVariants as halt
use Rattle.pybuf_value.specs.Refusing.{IfDone}
use Rattle.pybuf_command.specs.declared.commands.LocalReply.{LocalReply}
use Rattle.pybuf_value.specs.declared.snaps.Snap.{Snap}
use Rattle.pybuf_value.specs.declared.values.PySlice.{PySlice}
use Rattle.pybuf_value.specs.declared.values.Value.TheVariants as value
use Rattle.pybuf_value.specs.declared.values.Scalar.TheVariants as scalar
use Rattle.pybuf_state.specs.Exporter.{Exporter}
use Rattle.pybuf_state.specs.Answers.{Answers}
use Rattle.pybuf_state.specs.Keeps.{IsSafe, IsCarriedOut}
use Rattle.pybuf_state.specs.Sound.{IsSoundExporter}
use Rattle.pybuf_state.specs.Loans.{lent_as}
use Rattle.pybuf_verbs_writes.specs.Assign.{assign_of_lent}
use Rattle.pybuf_verbs_writes.specs.Laws.{AssignIsSafe}

carried_out : (old new : Exporter) (effect : Result (Exporter × LocalReply) Fault) (r : LocalReply) → IsSafe old effect → effect ≡ Ok (new, r) → IsCarriedOut old (new, r)
carried_out old new effect r safe is = subst (λ (x : Result (Exporter × LocalReply) Fault). IfDone (IsCarriedOut old) x) is safe

pub stays_sound : (old new : Exporter) (effect : Result (Exporter × LocalReply) Fault) (answer : Result LocalReply Halt) → IsSafe old effect → IsSoundExporter old → Answers effect old answer new → IsSoundExporter new
stays_sound old new effect (Ok r) safe sound is = ((carried_out old new effect r safe is).keeps sound).sound
stays_sound old new effect (Err (halt.Refused f)) safe sound is = subst IsSoundExporter (sym is.1) sound
stays_sound old new effect (Err halt.NoMemory) safe sound is = subst IsSoundExporter (sym is) sound

pub lent_is_safe : AssignIsSafe → (e : Exporter) (k : ℕ) (slice : PySlice) (lent : Option Snap) → IsSafe e (assign_of_lent e k slice lent)
lent_is_safe safe e k slice (Some snap) = safe e k slice (value.One (scalar.Handle 0)) (lent_as 0 None (Some snap))
lent_is_safe safe e k slice None = tt

-- A command on a handle, by the exporter that it works on.
use Rattle.std.proofs.Common.{◌≡◌, ℕ, List, length, Bool, true, false, ap, ◌∙◌, refl}
use Rattle.std.specs.Prelude.{Option, Some, None, Result, Ok, Err, slice_get, if◌then◌else◌}
use Rattle.pybuf_value.specs.declared.faults.Fault.{Fault}
use Rattle.pybuf_value.specs.declared.faults.Fault.TheVariants as fault
use Rattle.pybuf_value.specs.Refusing.{IfDone}
use Rattle.pybuf_command.specs.declared.kinds.Subject.{Subject}
use Rattle.pybuf_command.specs.declared.commands.Verb.{Verb}
use Rattle.pybuf_command.specs.declared.commands.LocalReply.{LocalReply}
use Rattle.pybuf_command.specs.declared.commands.LocalReply.TheVariants as local
use Rattle.pybuf_command.specs.declared.worlds.Command.TheVariants as command
use Rattle.pybuf_command.specs.declared.worlds.Reply.{Reply}
use Rattle.pybuf_command.specs.declared.worlds.Reply.TheVariants as reply
use Rattle.pybuf_command.specs.declared.loans.Loan.{Loan}
use Rattle.pybuf_command.specs.Handles.{handles_of, handles_read}
use Rattle.pybuf_state.specs.Exporter.{Exporter}
use Rattle.pybuf_state.specs.Loans.{are_named, lents_by, names_of}
use Rattle.pybuf_exporter.specs.Step.{effect, settled_answer, answer_of, estep}
use Rattle.pybuf_world.specs.declared.named.Named.{Named}
use Rattle.pybuf_world.specs.declared.named.Target.{Target}
use Rattle.pybuf_world.specs.World.{World, exporter_of, subject_of, loans_of, has_view, reply_with_copy, reply_after, world_after, step_with_loans, target_of, step_of_handle, wstep}

-- ---- which exporter a command works on

-- the exporter that a command works on, and what the command answers there
pub record IsAsked (w : World) (handle : ℕ) (v : Verb) (after : World × Reply) : Type 0 where
  pub name : Named
  pub given : slice_get w.handles handle ≡ Some name
  pub exporter : Exporter
  pub there : slice_get w.exporters (exporter_of name) ≡ Some exporter
  pub stepped : world_after w (target_of handle name) (estep exporter (subject_of name) v (loans_of w (exporter_of name) v)) ≡ after

by_exporter : (w : World) (handle : ℕ) (v : Verb) (name : Named) (o : Option Exporter) (after : World × Reply) → slice_get w.handles handle ≡ Some name → slice_get w.exporters (exporter_of name) ≡ o
    → (reply.Refused fault.UnknownName ≡ after.1 → ⊥) → step_with_loans w (target_of handle name) v (loans_of w (exporter_of name) v) o ≡ after → IsAsked w handle v after
by_exporter w handle v name None after given at known is = absurd (known (ap (λ (x : World × Reply). x.1) is))
by_exporter w handle v name (Some e) after given at known is = record { name = name; given = given; exporter = e; there = at; stepped = is }

by_name : (w : World) (handle : ℕ) (v : Verb) (o : Option Named) (after : World × Reply) → slice_get w.handles handle ≡ o → (reply.Refused fault.UnknownName ≡ after.1 → ⊥) → step_of_handle w handle v o ≡ after → IsAsked w handle v after
by_name w handle v None after at known is = absurd (known (ap (λ (x : World × Reply). x.1) is))
by_name w handle v (Some name) after at known is = by_exporter w handle v name (slice_get w.exporters (exporter_of name)) after at refl known is

-- If a command isn't refused for its name, it works on an exporter that is there.
pub asked : (w : World) (handle : ℕ) (v : Verb) (after : World × Reply) → (reply.Refused fault.UnknownName ≡ after.1 → ⊥) → wstep w (command.Do handle v) ≡ after → IsAsked w handle v after
asked w handle v after known is = by_name w handle v (slice_get w.handles handle) after refl known is

-- If that exporter is known, so is the step.
pub steps_so : (w : World) (handle : ℕ) (v : Verb) (name : Named) (e : Exporter) (after : Exporter × LocalReply) → slice_get w.handles handle ≡ Some name → slice_get w.exporters (exporter_of name) ≡ Some e
    → estep e (subject_of name) v (loans_of w (exporter_of name) v) ≡ after → wstep w (command.Do handle v) ≡ world_after w (target_of handle name) after
steps_so w handle v name e after given there is =
    let t = target_of handle name in
    ap (step_of_handle w handle v) given ∙ ap (step_with_loans w t v (loans_of w t.exporter v)) there ∙ ap (world_after w t) is

-- ---- what an effect that isn't refused does

settled : (P : Exporter × LocalReply → Type 0) (e : Exporter) (r : Result (Exporter × LocalReply) Fault) (out : LocalReply) → IfDone P r → (settled_answer e r).1 ≡ out → ((f : Fault) → local.Refused f ≡ out → ⊥) → P (settled_answer e r)
settled P e (Ok after) out done is known = done
settled P e (Err f) out done is known = absurd (known f is)

if_known : (P : Exporter × LocalReply → Type 0) (b : Bool) (r : Result (Exporter × LocalReply) Fault) → IfDone P r → IfDone P (if b then r else Err fault.UnknownName)
if_known P true r done = done
if_known P false r done = tt

-- What holds of an effect unless it is refused holds of a step that isn't refused.
pub stepped_so : (P : Exporter × LocalReply → Type 0) (e : Exporter) (s : Subject) (v : Verb) (loans : List (ℕ × Loan)) (out : LocalReply) → IfDone P (effect e s v (lents_by e (names_of loans) (handles_read s v)))
    → (estep e s v loans).1 ≡ out → ((f : Fault) → local.Refused f ≡ out → ⊥) → P (estep e s v loans)
stepped_so P e s v loans out done is known =
    settled P e (answer_of e s v loans) out (if_known P (are_named e (names_of loans) (handles_of v)) (effect e s v (lents_by e (names_of loans) (handles_read s v))) done) is known

pub each_done : {X : Type 0} (P : X → Type 0) (r : Result X Fault) → ((x : X) → r ≡ Ok x → P x) → IfDone P r
each_done P (Ok x) each = each x refl
each_done P (Err f) each = tt

-- ---- replies, by the local reply

copy_no_bytes : (viewed : Bool) (next : ℕ) (x : List ℕ) → reply_with_copy viewed next ≡ reply.Bytes x → ⊥
copy_no_bytes true next x is = cc
copy_no_bytes false next x is = cc

pub only_bytes : (w : World) (t : Target) (r : LocalReply) (x : List ℕ) → reply_after w t r ≡ reply.Bytes x → r ≡ local.Bytes x
only_bytes w t (local.Bytes own) x is = let same : own ≡ x = cc in ap local.Bytes same
only_bytes w t (local.View k) x is = absurd (cc)
only_bytes w t (local.Iter k) x is = absurd (cc)
only_bytes w t local.Ok x is = absurd (cc)
only_bytes w t local.Itself x is = absurd (cc)
only_bytes w t local.Own x is = absurd (cc)
only_bytes w t (local.Item i) x is = absurd (cc)
only_bytes w t (local.Items shape items) x is = absurd (cc)
only_bytes w t (local.Text text) x is = absurd (cc)
only_bytes w t (local.Shown text) x is = absurd (cc)
only_bytes w t (local.Truth truth) x is = absurd (cc)
only_bytes w t local.NotImplementedReply x is = absurd (cc)
only_bytes w t (local.Numbers numbers) x is = absurd (cc)
only_bytes w t (local.ByteLists lists) x is = absurd (cc)
only_bytes w t local.Stop x is = absurd (cc)
only_bytes w t (local.Refused f) x is = absurd (cc)
only_bytes w t (local.Fresh snap) x is = absurd (copy_no_bytes (has_view snap.kind) (length w.handles) x is)

copy_no_truth : (viewed : Bool) (next : ℕ) (x : Bool) → reply_with_copy viewed next ≡ reply.Truth x → ⊥
copy_no_truth true next x is = cc
copy_no_truth false next x is = cc

pub only_truth : (w : World) (t : Target) (r : LocalReply) (x : Bool) → reply_after w t r ≡ reply.Truth x → r ≡ local.Truth x
only_truth w t (local.Truth own) x is = let same : own ≡ x = cc in ap local.Truth same
only_truth w t (local.View k) x is = absurd (cc)
only_truth w t (local.Iter k) x is = absurd (cc)
only_truth w t local.Ok x is = absurd (cc)
only_truth w t local.Itself x is = absurd (cc)
only_truth w t local.Own x is = absurd (cc)
only_truth w t (local.Item i) x is = absurd (cc)
only_truth w t (local.Items shape items) x is = absurd (cc)
only_truth w t (local.Bytes bytes) x is = absurd (cc)
only_truth w t (local.Text text) x is = absurd (cc)
only_truth w t (local.Shown text) x is = absurd (cc)
only_truth w t local.NotImplementedReply x is = absurd (cc)
only_truth w t (local.Numbers numbers) x is = absurd (cc)
only_truth w t (local.ByteLists lists) x is = absurd (cc)
only_truth w t local.Stop x is = absurd (cc)
only_truth w t (local.Refused f) x is = absurd (cc)
only_truth w t (local.Fresh snap) x is = absurd (copy_no_truth (has_view snap.kind) (length w.handles) x is)

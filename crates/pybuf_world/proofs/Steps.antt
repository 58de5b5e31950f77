-- What the tables have after a command on an exporter that is there.
use Rattle.std.proofs.Common.{◌≡◌, ℕ, List, [], ◌∷◌, ◌++◌, length, Bool, true, false, true≢false, set, ap, sym, ◌∙◌, refl, subst}
use Rattle.std.specs.Prelude.{Option, Some, None, Result, Ok, Err, OnErr, slice_get}
use Rattle.std.proofs.lemmas.List.{length-set}
use Rattle.pybuf_lemmas.proofs.Lists.{element_after_set, set_to_itself}
use Rattle.pybuf_value.specs.declared.faults.Fault.TheVariants as fault
use Rattle.pybuf_value.specs.declared.snaps.Snap.{Snap}
use Rattle.pybuf_command.specs.declared.commands.Verb.{Verb}
use Rattle.pybuf_command.specs.declared.commands.LocalReply.{LocalReply}
use Rattle.pybuf_command.specs.declared.commands.LocalReply.TheVariants as local
use Rattle.pybuf_command.specs.declared.loans.Loan.{Loan}
use Rattle.pybuf_state.specs.Exporter.{Exporter}
use Rattle.pybuf_state.specs.Fresh.{is_readonly_subject, made_of}
use Rattle.pybuf_exporter.specs.Step.{estep}
use Rattle.pybuf_exporter.specs.Laws.{FreshRepliesAreCopies}
use Rattle.pybuf_world.specs.declared.named.Named.{Named}
use Rattle.pybuf_world.specs.declared.named.Target.{Target}
use Rattle.pybuf_world.specs.World.{World, has_view, handles_with_copy, reply_with_copy, loans_of, world_after, step_with_loans}
use Rattle.pybuf_world.specs.Stepping.{local_step}
use Rattle.pybuf_world.specs.Tables.{IsCopyAt, IsFresh, IfFresh, with_copy, answered}

-- ---- replies

-- The exporter that a copy makes stands behind the exporter that made a step.
fresh_answered : (w : World) (t : Target) (old new : Exporter) (snap : Snap) → slice_get w.exporters t.exporter ≡ Some old
    → world_after w t (new, local.Fresh snap) ≡ answered (record w { exporters = set w.exporters t.exporter new }) t (local.Fresh snap)
fresh_answered w t old new snap found =
    let made : List Exporter = set w.exporters t.exporter new ++ made_of (is_readonly_subject new t.subject) snap ∷ [] in
    ap (λ (n : ℕ). (record { exporters = made; handles = handles_with_copy (has_view snap.kind) n w.handles }, reply_with_copy (has_view snap.kind) (length w.handles))) (sym (length-set w.exporters t.exporter new))
    ∙ ap (λ (o : Option Exporter). with_copy (record w { exporters = set w.exporters t.exporter new }) o t.subject snap) (sym (element_after_set w.exporters t.exporter old new found))

reply_answered : (w : World) (t : Target) (old new : Exporter) (r : LocalReply) → slice_get w.exporters t.exporter ≡ Some old → world_after w t (new, r) ≡ answered (record w { exporters = set w.exporters t.exporter new }) t r
reply_answered w t old new (local.Fresh snap) found = fresh_answered w t old new snap found
reply_answered w t old new (local.View k) found = refl
reply_answered w t old new (local.Iter k) found = refl
reply_answered w t old new local.Ok found = refl
reply_answered w t old new local.Itself found = refl
reply_answered w t old new local.Own found = refl
reply_answered w t old new (local.Item x) found = refl
reply_answered w t old new (local.Items shape items) found = refl
reply_answered w t old new (local.Bytes bytes) found = refl
reply_answered w t old new (local.Text text) found = refl
reply_answered w t old new (local.Shown text) found = refl
reply_answered w t old new (local.Truth truth) found = refl
reply_answered w t old new local.NotImplementedReply found = refl
reply_answered w t old new local.Stop found = refl
reply_answered w t old new (local.Numbers numbers) found = refl
reply_answered w t old new (local.ByteLists lists) found = refl
reply_answered w t old new (local.Refused f) found = refl

-- A step is the local step together with its answer.
pub answer_of_local : (w : World) (t : Target) (v : Verb) (loans : List (ℕ × Loan)) (o : Option Exporter) (after : World) (r : LocalReply) → slice_get w.exporters t.exporter ≡ o → local_step w t v loans o ≡ (after, r)
    → step_with_loans w t v loans o ≡ answered after t r
answer_of_local w t v loans (Some e) after r found is =
    reply_answered w t e (estep e t.subject v loans).0 (estep e t.subject v loans).1 found ∙ ap (λ (p : World × LocalReply). answered p.0 t p.1) is
answer_of_local w t v loans None after r found is = ap (λ (p : World × LocalReply). answered p.0 t p.1) is

-- ---- copies

abbrev is_fresh : LocalReply → Bool
is_fresh (local.Fresh snap) = true
is_fresh _ = false

-- A reply that is something fresh leaves the world as it was, and is a copy of the target.
fresh_copy : FreshRepliesAreCopies → (w : World) (t : Target) (v : Verb) (loans : List (ℕ × Loan)) (o : Option Exporter) (after : World) (snap : Snap) → slice_get w.exporters t.exporter ≡ o
    → local_step w t v loans o ≡ (after, local.Fresh snap) → (after ≡ w) × (IsCopyAt o t.subject snap)
fresh_copy copies w t v loans (Some e) after snap found is =
    let copied = copies e t.subject v loans snap (ap (λ (p : World × LocalReply). p.1) is) in
    (sym (ap (λ (p : World × LocalReply). p.0) is) ∙ ap (λ (es : List Exporter). record w { exporters = es }) (ap (set w.exporters t.exporter) copied.0 ∙ set_to_itself w.exporters t.exporter e found), copied.1)
fresh_copy copies w t v loans None after snap found is =
    let other : is_fresh (local.Refused fault.UnknownName) ≡ is_fresh (local.Fresh snap) = ap (λ (p : World × LocalReply). is_fresh p.1) is in
    absurd (true≢false (sym other))

pub left_alone : FreshRepliesAreCopies → (w : World) (t : Target) (v : Verb) (loans : List (ℕ × Loan)) (o : Option Exporter) (after : World) (r : LocalReply) → slice_get w.exporters t.exporter ≡ o
    → local_step w t v loans o ≡ (after, r) → IsFresh r → after ≡ w
left_alone copies w t v loans o after (local.Fresh snap) found is fresh = (fresh_copy copies w t v loans o after snap found is).0
left_alone copies w t v loans o after (local.View k) found is fresh = absurd fresh
left_alone copies w t v loans o after (local.Iter k) found is fresh = absurd fresh
left_alone copies w t v loans o after local.Ok found is fresh = absurd fresh
left_alone copies w t v loans o after local.Itself found is fresh = absurd fresh
left_alone copies w t v loans o after local.Own found is fresh = absurd fresh
left_alone copies w t v loans o after (local.Item x) found is fresh = absurd fresh
left_alone copies w t v loans o after (local.Items shape items) found is fresh = absurd fresh
left_alone copies w t v loans o after (local.Bytes bytes) found is fresh = absurd fresh
left_alone copies w t v loans o after (local.Text text) found is fresh = absurd fresh
left_alone copies w t v loans o after (local.Shown text) found is fresh = absurd fresh
left_alone copies w t v loans o after (local.Truth truth) found is fresh = absurd fresh
left_alone copies w t v loans o after local.NotImplementedReply found is fresh = absurd fresh
left_alone copies w t v loans o after local.Stop found is fresh = absurd fresh
left_alone copies w t v loans o after (local.Numbers numbers) found is fresh = absurd fresh
left_alone copies w t v loans o after (local.ByteLists lists) found is fresh = absurd fresh
left_alone copies w t v loans o after (local.Refused f) found is fresh = absurd fresh

pub copy_asked : FreshRepliesAreCopies → (w : World) (t : Target) (v : Verb) (loans : List (ℕ × Loan)) (o : Option Exporter) (after : World) (r : LocalReply) → slice_get w.exporters t.exporter ≡ o
    → local_step w t v loans o ≡ (after, r) → IfFresh r (IsCopyAt (slice_get after.exporters t.exporter) t.subject)
copy_asked copies w t v loans o after (local.Fresh snap) found is =
    let copied = fresh_copy copies w t v loans o after snap found is in
    subst (λ (x : World). IsCopyAt (slice_get x.exporters t.exporter) t.subject snap) (sym copied.0) (subst (λ (x : Option Exporter). IsCopyAt x t.subject snap) (sym found) copied.1)
copy_asked copies w t v loans o after (local.View k) found is = tt
copy_asked copies w t v loans o after (local.Iter k) found is = tt
copy_asked copies w t v loans o after local.Ok found is = tt
copy_asked copies w t v loans o after local.Itself found is = tt
copy_asked copies w t v loans o after local.Own found is = tt
copy_asked copies w t v loans o after (local.Item x) found is = tt
copy_asked copies w t v loans o after (local.Items shape items) found is = tt
copy_asked copies w t v loans o after (local.Bytes bytes) found is = tt
copy_asked copies w t v loans o after (local.Text text) found is = tt
copy_asked copies w t v loans o after (local.Shown text) found is = tt
copy_asked copies w t v loans o after (local.Truth truth) found is = tt
copy_asked copies w t v loans o after local.NotImplementedReply found is = tt
copy_asked copies w t v loans o after local.Stop found is = tt
copy_asked copies w t v loans o after (local.Numbers numbers) found is = tt
copy_asked copies w t v loans o after (local.ByteLists lists) found is = tt
copy_asked copies w t v loans o after (local.Refused f) found is = tt

-- ---- reserved room, and the two facts of an error

-- Handles with reserved room are the same handles.
pub with_room : (es : List Exporter) (names handles : List Named) (t : Target) (v : Verb) (after : World) (r : LocalReply) → names ≡ handles
    → local_step (record { exporters = es; handles = names }) t v (loans_of (record { exporters = es; handles = names }) t.exporter v) (slice_get es t.exporter) ≡ (after, r)
    → local_step (record { exporters = es; handles = handles }) t v (loans_of (record { exporters = es; handles = handles }) t.exporter v) (slice_get es t.exporter) ≡ (after, r)
with_room es names handles t v after r same is =
    subst (λ (hs : List Named). local_step (record { exporters = es; handles = hs }) t v (loans_of (record { exporters = es; handles = hs }) t.exporter v) (slice_get es t.exporter) ≡ (after, r)) same is

pub both_on_err : {X E : Type 0} (P Q R : Type 0) (r : Result X E) → (P → Q → R) → OnErr r P → OnErr r Q → OnErr r R
both_on_err P Q R (Ok x) go p q = p
both_on_err P Q R (Err e) go p q = go p q

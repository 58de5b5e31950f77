-- A refused command changes nothing, and handles stay.
use Rattle.std.proofs.Common.{◌≡◌, ℕ, ◌+◌, ◌<◌, Bool, true, false, List, [], ◌∷◌, ◌++◌, length, set, ap, ◌∙◌, refl, arith}
use Rattle.std.proofs.lemmas.List.{length-append}
use Rattle.std.specs.Prelude.{Option, Some, None, Result, Ok, Err, slice_get, if◌then◌else◌}
use Rattle.pybuf_lemmas.proofs.Lists.{get-left, set_to_itself}
use Rattle.pybuf_value.specs.declared.faults.Fault.{Fault}
use Rattle.pybuf_value.specs.declared.faults.Fault.TheVariants as fault
use Rattle.pybuf_command.specs.declared.commands.Verb.{Verb}
use Rattle.pybuf_command.specs.declared.commands.LocalReply.{LocalReply}
use Rattle.pybuf_command.specs.declared.commands.LocalReply.TheVariants as local
use Rattle.pybuf_state.specs.Exporter.{Exporter}
use Rattle.pybuf_command.specs.declared.loans.Loan.{Loan}
use Rattle.pybuf_exporter.specs.Step.{estep}
use Rattle.pybuf_exporter.specs.Laws.{RefusedCommandsChangeNothing}
use Rattle.pybuf_command.specs.declared.kinds.ExporterKind.{ExporterKind}
use Rattle.pybuf_world.specs.declared.named.Named.{Named}
use Rattle.pybuf_world.specs.declared.named.Named.TheVariants as named
use Rattle.pybuf_world.specs.declared.named.Target.{Target}
use Rattle.pybuf_command.specs.declared.worlds.Command.TheVariants as command
use Rattle.pybuf_command.specs.declared.worlds.Reply.TheVariants as reply
use Rattle.pybuf_command.specs.Handles.{handles_of_options}
use Rattle.pybuf_world.specs.World.{World, bytes_of_new, world_with_bytes, are_given, loans_of, has_view, handles_with_copy, reply_with_copy, handles_after, world_after, step_with_loans, target_of, step_of_handle}
use Rattle.pybuf_world.specs.Laws.{RefusalsChangeNothing, HandlesStay}

-- ---- refusals

-- A copy is replied as handles, and so isn't a refusal.
pub copy_no_refusal : (viewed : Bool) (next : ℕ) (f : Fault) → reply_with_copy viewed next ≡ reply.Refused f → ⊥
copy_no_refusal true next f is = cc
copy_no_refusal false next f is = cc

-- Only a refusal of the exporter is replied as one, and then the exporter is as before.
after_refusal : (w : World) (t : Target) (e : Exporter) (r : LocalReply) (f : Fault) → (r ≡ local.Refused f → set w.exporters t.exporter e ≡ w.exporters)
    → (world_after w t (e, r)).1 ≡ reply.Refused f → (world_after w t (e, r)).0 ≡ w
after_refusal w t e (local.Refused g) f kept is =
    let same : g ≡ f = cc in ap (λ (xs : List Exporter). record w { exporters = xs }) (kept (ap local.Refused same))
after_refusal w t e (local.View k) f kept is = absurd (cc)
after_refusal w t e (local.Iter k) f kept is = absurd (cc)
after_refusal w t e (local.Fresh snap) f kept is = absurd (copy_no_refusal (has_view snap.kind) (length w.handles) f is)
after_refusal w t e local.Ok f kept is = absurd (cc)
after_refusal w t e local.Itself f kept is = absurd (cc)
after_refusal w t e local.Own f kept is = absurd (cc)
after_refusal w t e (local.Item x) f kept is = absurd (cc)
after_refusal w t e (local.Items shape items) f kept is = absurd (cc)
after_refusal w t e (local.Bytes bytes) f kept is = absurd (cc)
after_refusal w t e (local.Text text) f kept is = absurd (cc)
after_refusal w t e (local.Shown text) f kept is = absurd (cc)
after_refusal w t e (local.Truth truth) f kept is = absurd (cc)
after_refusal w t e local.NotImplementedReply f kept is = absurd (cc)
after_refusal w t e local.Stop f kept is = absurd (cc)
after_refusal w t e (local.Numbers numbers) f kept is = absurd (cc)
after_refusal w t e (local.ByteLists lists) f kept is = absurd (cc)

loans_refusal : RefusedCommandsChangeNothing → (w : World) (t : Target) (v : Verb) (loans : List (ℕ × Loan)) (o : Option Exporter) (f : Fault) → slice_get w.exporters t.exporter ≡ o
    → (step_with_loans w t v loans o).1 ≡ reply.Refused f → (step_with_loans w t v loans o).0 ≡ w
loans_refusal stays w t v loans (Some e) f at is =
    after_refusal w t (estep e t.subject v loans).0 (estep e t.subject v loans).1 f
    (λ refused. ap (set w.exporters t.exporter) (stays e t.subject v loans f refused) ∙ set_to_itself w.exporters t.exporter e at) is
loans_refusal stays w t v loans None f at is = refl

handle_refusal : RefusedCommandsChangeNothing → (w : World) (handle : ℕ) (v : Verb) (o : Option Named) (f : Fault) → (step_of_handle w handle v o).1 ≡ reply.Refused f → (step_of_handle w handle v o).0 ≡ w
handle_refusal stays w handle v (Some name) f is =
    let t = target_of handle name in loans_refusal stays w t v (loans_of w t.exporter v) (slice_get w.exporters t.exporter) f refl is
handle_refusal stays w handle v None f is = refl

bytes_refusal : (w : World) (k : ExporterKind) (r : Result (List ℕ) Fault) (f : Fault) → (world_with_bytes w k r).1 ≡ reply.Refused f → (world_with_bytes w k r).0 ≡ w
bytes_refusal w k (Ok bytes) f is = absurd (cc)
bytes_refusal w k (Err g) f is = refl

given_refusal : (w : World) (given : Bool) (k : ExporterKind) (r : Result (List ℕ) Fault) (f : Fault)
    → (if given then world_with_bytes w k r else (w, reply.Refused fault.UnknownName)).1 ≡ reply.Refused f → (if given then world_with_bytes w k r else (w, reply.Refused fault.UnknownName)).0 ≡ w
given_refusal w true k r f is = bytes_refusal w k r f is
given_refusal w false k r f is = refl

pub refusals_leave_all : RefusedCommandsChangeNothing → RefusalsChangeNothing
refusals_leave_all stays w (command.New k options) f is =
    given_refusal w (are_given w (handles_of_options options)) k (bytes_of_new w options) f is
refusals_leave_all stays w (command.Do handle v) f is = handle_refusal stays w handle v (slice_get w.handles handle) f is

-- ---- handles

copy_handles : (viewed : Bool) (n : ℕ) (handles : List Named) (h : ℕ) → h < length handles → slice_get (handles_with_copy viewed n handles) h ≡ slice_get handles h
copy_handles true n handles h below =
    let more : length (handles ++ named.Exporter n ∷ []) ≡ length handles + 1 = length-append handles (named.Exporter n ∷ []) in
    get-left (handles ++ named.Exporter n ∷ []) (named.View n 0 ∷ []) h (omega (arith, below, more))
    ∙ get-left handles (named.Exporter n ∷ []) h below
copy_handles false n handles h below = get-left handles (named.Exporter n ∷ []) h below

after_handles : (w : World) (t : Target) (r : LocalReply) (h : ℕ) → h < length w.handles → slice_get (handles_after w t r) h ≡ slice_get w.handles h
after_handles w t (local.View k) h below = get-left w.handles (named.View t.exporter k ∷ []) h below
after_handles w t (local.Iter k) h below = get-left w.handles (named.Iterator t.exporter k ∷ []) h below
after_handles w t (local.Fresh snap) h below = copy_handles (has_view snap.kind) (length w.exporters) w.handles h below
after_handles w t local.Ok h below = refl
after_handles w t local.Itself h below = refl
after_handles w t local.Own h below = refl
after_handles w t (local.Item x) h below = refl
after_handles w t (local.Items shape items) h below = refl
after_handles w t (local.Bytes bytes) h below = refl
after_handles w t (local.Text text) h below = refl
after_handles w t (local.Shown text) h below = refl
after_handles w t (local.Truth truth) h below = refl
after_handles w t local.NotImplementedReply h below = refl
after_handles w t local.Stop h below = refl
after_handles w t (local.Numbers numbers) h below = refl
after_handles w t (local.ByteLists lists) h below = refl
after_handles w t (local.Refused g) h below = refl

loans_handles : (w : World) (t : Target) (v : Verb) (loans : List (ℕ × Loan)) (o : Option Exporter) (h : ℕ) → h < length w.handles → slice_get (step_with_loans w t v loans o).0.handles h ≡ slice_get w.handles h
loans_handles w t v loans (Some e) h below = after_handles w t (estep e t.subject v loans).1 h below
loans_handles w t v loans None h below = refl

handle_handles : (w : World) (handle : ℕ) (v : Verb) (o : Option Named) (h : ℕ) → h < length w.handles → slice_get (step_of_handle w handle v o).0.handles h ≡ slice_get w.handles h
handle_handles w handle v (Some name) h below =
    let t = target_of handle name in loans_handles w t v (loans_of w t.exporter v) (slice_get w.exporters t.exporter) h below
handle_handles w handle v None h below = refl

bytes_handles : (w : World) (k : ExporterKind) (r : Result (List ℕ) Fault) (h : ℕ) → h < length w.handles → slice_get (world_with_bytes w k r).0.handles h ≡ slice_get w.handles h
bytes_handles w k (Ok bytes) h below = get-left w.handles (named.Exporter (length w.exporters) ∷ []) h below
bytes_handles w k (Err g) h below = refl

given_handles : (w : World) (given : Bool) (k : ExporterKind) (r : Result (List ℕ) Fault) (h : ℕ) → h < length w.handles
    → slice_get (if given then world_with_bytes w k r else (w, reply.Refused fault.UnknownName)).0.handles h ≡ slice_get w.handles h
given_handles w true k r h below = bytes_handles w k r h below
given_handles w false k r h below = refl

pub handles_stay_so : HandlesStay
handles_stay_so w (command.New k options) h below =
    given_handles w (are_given w (handles_of_options options)) k (bytes_of_new w options) h below
handles_stay_so w (command.Do handle v) h below = handle_handles w handle v (slice_get w.handles handle) h below

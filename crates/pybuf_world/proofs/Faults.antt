-- No command of a world is refused with `StructError`.
use Rattle.std.proofs.Common.{◌≡◌, ℕ, Bool, true, false, List, length, ap}
use Rattle.std.specs.Prelude.{◌≢◌, Option, Some, None, Result, Ok, Err, slice_get, if◌then◌else◌}
use Rattle.pybuf_value.specs.declared.faults.Fault.{Fault}
use Rattle.pybuf_value.specs.declared.faults.Fault.TheVariants as fault
use Rattle.pybuf_command.specs.declared.commands.Verb.{Verb}
use Rattle.pybuf_command.specs.declared.commands.LocalReply.{LocalReply}
use Rattle.pybuf_command.specs.declared.commands.LocalReply.TheVariants as local
use Rattle.pybuf_command.specs.declared.kinds.ExporterKind.{ExporterKind}
use Rattle.pybuf_command.specs.declared.loans.Loan.{Loan}
use Rattle.pybuf_command.specs.declared.worlds.Command.TheVariants as command
use Rattle.pybuf_command.specs.declared.worlds.Reply.TheVariants as reply
use Rattle.pybuf_command.specs.Handles.{handles_of_options}
use Rattle.pybuf_state.specs.Exporter.{Exporter}
use Rattle.pybuf_exporter.specs.Step.{estep}
use Rattle.pybuf_exporter.specs.Laws.{StructErrorIsNeverReplied}
use Rattle.pybuf_world.specs.declared.named.Named.{Named}
use Rattle.pybuf_world.specs.declared.named.Target.{Target}
use Rattle.pybuf_world.specs.World.{World, bytes_of_new, world_with_bytes, are_given, pairs_of, loans_of, has_view, world_after, step_with_loans, target_of, step_of_handle}
use Rattle.pybuf_world.specs.Laws.{NoReplyIsAStructError}
use Rattle.pybuf_world.proofs.Refusals.{copy_no_refusal}

after : (w : World) (t : Target) (e : Exporter) (r : LocalReply) → r ≢ local.Refused fault.Struct → (world_after w t (e, r)).1 ≢ reply.Refused fault.Struct
after w t e (local.Refused g) other is = let same : g ≡ fault.Struct = cc in other (ap local.Refused same)
after w t e (local.Fresh snap) other is = copy_no_refusal (has_view snap.kind) (length w.handles) fault.Struct is
after w t e (local.View k) other is = cc
after w t e (local.Iter k) other is = cc
after w t e local.Ok other is = cc
after w t e local.Itself other is = cc
after w t e local.Own other is = cc
after w t e (local.Item x) other is = cc
after w t e (local.Items shape items) other is = cc
after w t e (local.Bytes bytes) other is = cc
after w t e (local.Text text) other is = cc
after w t e (local.Shown text) other is = cc
after w t e (local.Truth truth) other is = cc
after w t e local.NotImplementedReply other is = cc
after w t e local.Stop other is = cc
after w t e (local.Numbers numbers) other is = cc
after w t e (local.ByteLists lists) other is = cc

with_loans : StructErrorIsNeverReplied → (w : World) (t : Target) (v : Verb) (loans : List (ℕ × Loan)) (o : Option Exporter) → (step_with_loans w t v loans o).1 ≢ reply.Refused fault.Struct
with_loans never w t v loans (Some e) is = after w t (estep e t.subject v loans).0 (estep e t.subject v loans).1 (never.commands e t.subject v loans) is
with_loans never w t v loans None is = cc

of_handle : StructErrorIsNeverReplied → (w : World) (handle : ℕ) (v : Verb) (o : Option Named) → (step_of_handle w handle v o).1 ≢ reply.Refused fault.Struct
of_handle never w handle v (Some name) is =
    let t = target_of handle name in with_loans never w t v (loans_of w t.exporter v) (slice_get w.exporters t.exporter) is
of_handle never w handle v None is = cc

of_bytes : (w : World) (k : ExporterKind) (r : Result (List ℕ) Fault) → r ≢ Err fault.Struct → (world_with_bytes w k r).1 ≢ reply.Refused fault.Struct
of_bytes w k (Ok bytes) other is = cc
of_bytes w k (Err g) other is = let same : g ≡ fault.Struct = cc in other (ap (λ (f : Fault). Err f) same)

if_given : (w : World) (given : Bool) (k : ExporterKind) (r : Result (List ℕ) Fault) → r ≢ Err fault.Struct
    → (if given then world_with_bytes w k r else (w, reply.Refused fault.UnknownName)).1 ≢ reply.Refused fault.Struct
if_given w true k r other is = of_bytes w k r other is
if_given w false k r other is = cc

pub no_struct_error : StructErrorIsNeverReplied → NoReplyIsAStructError
no_struct_error never w (command.New k options) is =
    if_given w (are_given w (handles_of_options options)) k (bytes_of_new w options)
    (never.options (pairs_of w (handles_of_options options)) options.source options.encoding options.errors) is
no_struct_error never w (command.Do handle v) is = of_handle never w handle v (slice_get w.handles handle) is

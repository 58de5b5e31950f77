-- If a command shows its subject as a text, the text is one line.
use Rattle.std.proofs.Common.{◌≡◌, ℕ, Bool, true, false, List, length, ap, sym, ◌∙◌, refl}
use Rattle.std.specs.Prelude.{Option, Some, None, Result, Ok, Err, slice_get, if◌then◌else◌}
use Rattle.pybuf_value.specs.declared.faults.Fault.{Fault}
use Rattle.pybuf_value.specs.declared.faults.Fault.TheVariants as fault
use Rattle.pybuf_command.specs.declared.kinds.ExporterKind.{ExporterKind}
use Rattle.pybuf_command.specs.declared.commands.Verb.{Verb}
use Rattle.pybuf_command.specs.declared.commands.LocalReply.{LocalReply}
use Rattle.pybuf_command.specs.declared.commands.LocalReply.TheVariants as local
use Rattle.pybuf_command.specs.declared.loans.Loan.{Loan}
use Rattle.pybuf_command.specs.Handles.{handles_of_options}
use Rattle.pybuf_state.specs.Exporter.{Exporter}
use Rattle.pybuf_state.specs.Keeps.{is_one_line}
use Rattle.pybuf_exporter.specs.Step.{estep}
use Rattle.pybuf_exporter.specs.Laws.{ShownTextsAreOneLine}
use Rattle.pybuf_world.specs.declared.named.Named.{Named}
use Rattle.pybuf_world.specs.declared.named.Target.{Target}
use Rattle.pybuf_command.specs.declared.worlds.Command.TheVariants as command
use Rattle.pybuf_command.specs.declared.worlds.Reply.TheVariants as reply
use Rattle.pybuf_world.specs.World.{World, bytes_of_new, world_with_bytes, are_given, loans_of, has_view, reply_with_copy, reply_after, step_with_loans, target_of, step_of_handle}
use Rattle.pybuf_world.specs.Laws.{WorldShownTextsAreOneLine}

-- A copy is replied as handles, and so isn't a text.
copy_no_text : (viewed : Bool) (next : ℕ) (text : List ℕ) → reply_with_copy viewed next ≡ reply.Shown text → ⊥
copy_no_text true next text is = cc
copy_no_text false next text is = cc

-- Only a text that the exporter shows is replied as one.
shown_by_reply : (w : World) (t : Target) (r : LocalReply) (text : List ℕ) → ((shown : List ℕ) → r ≡ local.Shown shown → is_one_line shown ≡ true)
    → reply_after w t r ≡ reply.Shown text → is_one_line text ≡ true
shown_by_reply w t (local.Shown shown) text single is =
    let same : shown ≡ text = cc in ap is_one_line (sym same) ∙ single shown refl
shown_by_reply w t (local.Fresh snap) text single is = absurd (copy_no_text (has_view snap.kind) (length w.handles) text is)
shown_by_reply w t (local.View k) text single is = absurd (cc)
shown_by_reply w t (local.Iter k) text single is = absurd (cc)
shown_by_reply w t local.Ok text single is = absurd (cc)
shown_by_reply w t local.Itself text single is = absurd (cc)
shown_by_reply w t local.Own text single is = absurd (cc)
shown_by_reply w t (local.Item x) text single is = absurd (cc)
shown_by_reply w t (local.Items shape items) text single is = absurd (cc)
shown_by_reply w t (local.Bytes bytes) text single is = absurd (cc)
shown_by_reply w t (local.Text told) text single is = absurd (cc)
shown_by_reply w t (local.Truth truth) text single is = absurd (cc)
shown_by_reply w t local.NotImplementedReply text single is = absurd (cc)
shown_by_reply w t local.Stop text single is = absurd (cc)
shown_by_reply w t (local.Numbers numbers) text single is = absurd (cc)
shown_by_reply w t (local.ByteLists lists) text single is = absurd (cc)
shown_by_reply w t (local.Refused f) text single is = absurd (cc)

loans_shown : ShownTextsAreOneLine → (w : World) (t : Target) (v : Verb) (loans : List (ℕ × Loan)) (o : Option Exporter) (text : List ℕ) → (step_with_loans w t v loans o).1 ≡ reply.Shown text → is_one_line text ≡ true
loans_shown single w t v loans (Some e) text is = shown_by_reply w t (estep e t.subject v loans).1 text (single e t.subject v loans) is
loans_shown single w t v loans None text is = absurd (cc)

handle_shown : ShownTextsAreOneLine → (w : World) (handle : ℕ) (v : Verb) (o : Option Named) (text : List ℕ) → (step_of_handle w handle v o).1 ≡ reply.Shown text → is_one_line text ≡ true
handle_shown single w handle v (Some name) text is =
    let t = target_of handle name in loans_shown single w t v (loans_of w t.exporter v) (slice_get w.exporters t.exporter) text is
handle_shown single w handle v None text is = absurd (cc)

-- A new exporter is replied by its handle, and so isn't a text.
bytes_not_shown : (w : World) (k : ExporterKind) (r : Result (List ℕ) Fault) (text : List ℕ) → (world_with_bytes w k r).1 ≡ reply.Shown text → ⊥
bytes_not_shown w k (Ok bytes) text is = cc
bytes_not_shown w k (Err f) text is = cc

given_not_shown : (w : World) (given : Bool) (k : ExporterKind) (r : Result (List ℕ) Fault) (text : List ℕ)
    → (if given then world_with_bytes w k r else (w, reply.Refused fault.UnknownName)).1 ≡ reply.Shown text → ⊥
given_not_shown w true k r text is = bytes_not_shown w k r text is
given_not_shown w false k r text is = cc

pub shown_are_one_line : ShownTextsAreOneLine → WorldShownTextsAreOneLine
shown_are_one_line single w (command.New k options) text is =
    absurd (given_not_shown w (are_given w (handles_of_options options)) k (bytes_of_new w options) text is)
shown_are_one_line single w (command.Do handle v) text is = handle_shown single w handle v (slice_get w.handles handle) text is

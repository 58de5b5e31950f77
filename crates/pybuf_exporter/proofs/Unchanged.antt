-- A command that reads in place changes nothing.
use Rattle.std.proofs.Common.{◌≡◌, List, Bool, true, false, Ok, Err, refl}
use Rattle.std.specs.Prelude.{Result, if◌then◌else◌}
use Rattle.pybuf_value.specs.declared.faults.Fault.{Fault}
use Rattle.pybuf_value.specs.declared.faults.Fault.TheVariants as fault
use Rattle.pybuf_value.specs.Refusing.{unless, IfDone, done_bind}
use Rattle.pybuf_methods.specs.Methods.{method_reply}
use Rattle.pybuf_methods.specs.Sought.{contains_in}
use Rattle.pybuf_methods.specs.Shaped.{hex_of}
use Rattle.pybuf_desc.specs.Items.{content_of_layout}
use Rattle.pybuf_command.specs.declared.kinds.Subject.{Subject}
use Rattle.pybuf_command.specs.declared.kinds.Subject.TheVariants as subject
use Rattle.pybuf_command.specs.declared.commands.Verb.{Verb}
use Rattle.pybuf_command.specs.declared.commands.Verb.TheVariants as verb
use Rattle.pybuf_command.specs.declared.commands.LocalReply.{LocalReply}
use Rattle.pybuf_command.specs.Handles.{handles_of, handles_read}
use Rattle.pybuf_state.specs.Exporter.{Exporter, live_layout}
use Rattle.pybuf_state.specs.Keeps.{is_vector}
use Rattle.pybuf_state.specs.Loans.{Lent, are_known, lent_for_each, snaps_of}
use Rattle.pybuf_exporter.specs.Step.{effect, settled_answer, reads_in_place}
use Rattle.pybuf_exporter.specs.Laws.{ReadingInPlaceChangesNothing}

abbrev IsSame : Exporter → Exporter × LocalReply → Type 0
IsSame e after = after.0 ≡ e

effect_same : (e : Exporter) (s : Subject) (v : Verb) (lents : List Lent) → reads_in_place s v ≡ true → IfDone (IsSame e) (effect e s v lents)
effect_same e subject.Own (verb.Call call) lents is =
    done_bind (IsSame e) (unless (is_vector e.kind) fault.UnknownName) _ (λ _ _. done_bind (IsSame e) (method_reply (snaps_of lents) e.bytes call.name call.args) _ (λ given _. refl))
effect_same e subject.Own (verb.Contains v) lents is =
    done_bind (IsSame e) (unless (is_vector e.kind) fault.UnknownName) _ (λ _ _. done_bind (IsSame e) (contains_in (snaps_of lents) e.bytes v) _ (λ found _. refl))
effect_same e (subject.View k) (verb.Hex sep group) lents is =
    done_bind (IsSame e) (live_layout e k) _ (λ layout _. done_bind (IsSame e) (hex_of (snaps_of lents) sep group (content_of_layout e.bytes layout)) _ (λ text _. refl))
effect_same e s v lents is = absurd (cc)

settled_same : (e : Exporter) (r : Result (Exporter × LocalReply) Fault) → IfDone (IsSame e) r → (settled_answer e r).0 ≡ e
settled_same e (Ok after) same = same
settled_same e (Err f) same = refl

if_known : (e : Exporter) (known : Bool) (r : Result (Exporter × LocalReply) Fault) → IfDone (IsSame e) r → (settled_answer e (if known then r else Err fault.UnknownName)).0 ≡ e
if_known e true r same = settled_same e r same
if_known e false r same = refl

pub reading_same : ReadingInPlaceChangesNothing
reading_same e s v loans is =
    if_known e (are_known e loans (handles_of v)) (effect e s v (lent_for_each e loans (handles_read s v))) (effect_same e s v (lent_for_each e loans (handles_read s v)) is)

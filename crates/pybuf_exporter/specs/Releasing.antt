-- A released view stops no edit of its exporter. The second part says when a command makes a view.
use Rattle.std.specs.Prelude.{◌≡◌, ◌≢◌, ◌↔◌, ℕ, List, true, false, Ok, Err, Some, slice_get}
use Rattle.pybuf_value.specs.declared.faults.Fault.{Fault}
use Rattle.pybuf_value.specs.declared.faults.Fault.TheVariants as fault
use Rattle.pybuf_desc.specs.Layouts.{Layout}
use Rattle.pybuf_command.specs.declared.kinds.Subject.{Subject}
use Rattle.pybuf_command.specs.declared.kinds.Subject.TheVariants as subject
use Rattle.pybuf_command.specs.declared.commands.Verb.{Verb}
use Rattle.pybuf_command.specs.declared.commands.Verb.TheVariants as verb
use Rattle.pybuf_command.specs.declared.commands.LocalReply.TheVariants as reply
use Rattle.pybuf_command.specs.declared.loans.Loan.{Loan}
use Rattle.pybuf_state.specs.Exporter.{Exporter, View, whole_layout, live_layout, with_view}
use Rattle.pybuf_state.specs.Resizing.{has_exports}
use Rattle.pybuf_verbs_edits.specs.Edits.{is_edit}
use Rattle.pybuf_exporter.specs.Step.{estep}
use Rattle.pybuf_exporter.specs.Laws.{AddsItself}
use Rattle.pybuf_exporter.specs.Counting.{edits_by}

-- Every view that was made of an exporter is released. This is also true if no view was made.
abbrev pub AreReleased : Exporter → Type 0
AreReleased e = (k : ℕ) (v : View) → slice_get e.views k ≡ Some v → v.released ≡ true

-- An exporter has no exports exactly if all its views are released. Nothing else counts as an export, and so no
-- iterator does.
abbrev pub ReleasedViewsDontCount : Type 0
ReleasedViewsDontCount = (e : Exporter) → (has_exports e ≡ false) ↔ AreReleased e

-- Then no edit is refused with `BufferError`, whatever its values are and whatever its handles name, except one
-- that adds a bytearray to itself.
abbrev pub ReleasedViewsStopNoEdit : Type 0
ReleasedViewsStopNoEdit =
    (e : Exporter) (v : Verb) (loans : List (ℕ × Loan)) → AreReleased e → is_edit v ≡ true → (estep e subject.Own v loans).1 ≡ reply.Refused fault.Buffer → AddsItself e v loans

-- No other command is refused with `BufferError`, whatever views there are.
abbrev pub BufferErrorIsOfEdits : Type 0
BufferErrorIsOfEdits = (e : Exporter) (s : Subject) (v : Verb) (loans : List (ℕ × Loan)) → edits_by s v ≡ false → (estep e s v loans).1 ≢ reply.Refused fault.Buffer

-- `view` of an exporter always makes a view of all its bytes. `view` of an unreleased view makes a view of the
-- same items. The new view is unreleased and has the next number, which is the reply, and nothing else changes
-- (`with_view`). `view` of any other view is refused, and changes nothing.
pub record ViewsAreReplied : Type 0 where
  pub own : (e : Exporter) (loans : List (ℕ × Loan)) → estep e subject.Own verb.View loans ≡ with_view e (whole_layout e)
  pub view : (e : Exporter) (k : ℕ) (layout : Layout) (loans : List (ℕ × Loan)) → live_layout e k ≡ Ok layout → estep e (subject.View k) verb.View loans ≡ with_view e layout
  pub refused : (e : Exporter) (k : ℕ) (f : Fault) (loans : List (ℕ × Loan)) → live_layout e k ≡ Err f → estep e (subject.View k) verb.View loans ≡ (e, reply.Refused f)

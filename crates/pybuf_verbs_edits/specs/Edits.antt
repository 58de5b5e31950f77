-- Which edit a command on an exporter itself makes.
use Rattle.std.specs.Prelude.{ℕ, Bool, true, false, List, Option, Result, Err}
use Rattle.pybuf_value.specs.declared.faults.Fault.{Fault}
use Rattle.pybuf_value.specs.declared.faults.Fault.TheVariants as fault
use Rattle.pybuf_value.specs.declared.values.Value.TheVariants as value
use Rattle.pybuf_command.specs.declared.kinds.Subject.TheVariants as subject
use Rattle.pybuf_command.specs.declared.commands.Verb.{Verb}
use Rattle.pybuf_command.specs.declared.commands.Verb.TheVariants as verb
use Rattle.pybuf_command.specs.declared.commands.LocalReply.{LocalReply}
use Rattle.pybuf_command.specs.declared.loans.Loan.{Loan}
use Rattle.pybuf_command.specs.Handles.{handles_read}
use Rattle.pybuf_state.specs.Exporter.{Exporter}
use Rattle.pybuf_state.specs.Loans.{Lent, lents_by}
use Rattle.pybuf_verbs_edits.specs.Growing.{append_of_own, insert_of_own, imul_of_own, extend_of_own, iadd_of_own}
use Rattle.pybuf_verbs_edits.specs.Shrinking.{pop_of_own, remove_of_own, clear_of_own, delete_of_own, take_of_own}
use Rattle.pybuf_verbs_edits.specs.Replacing.{assign_of_own, init_of_own, reverse_of_own, copy_of_own}

-- Each edit has a line. A command that is no edit has no effect here, and is an unknown name.
abbrev pub edit_of_own : Exporter → Verb → List Lent → Result (Exporter × LocalReply) Fault
edit_of_own e (verb.Append v) lents = append_of_own e v
edit_of_own e (verb.Extend v) lents = extend_of_own e v lents
edit_of_own e (verb.Insert index v) lents = insert_of_own e index v
edit_of_own e (verb.Pop index) lents = pop_of_own e index
edit_of_own e (verb.Remove v) lents = remove_of_own e v
edit_of_own e verb.Clear lents = clear_of_own e
edit_of_own e verb.Reverse lents = reverse_of_own e
edit_of_own e (verb.Del key) lents = delete_of_own e key
edit_of_own e (verb.IAdd v) lents = iadd_of_own e v lents
edit_of_own e (verb.IMul count) lents = imul_of_own e count
edit_of_own e (verb.Init options) lents = init_of_own e options lents
edit_of_own e verb.Take lents = take_of_own e
edit_of_own e verb.Copy lents = copy_of_own e
edit_of_own e (verb.Set (value.Slice slice) v) lents = assign_of_own e slice v lents
edit_of_own e _ lents = Err fault.UnknownName

-- the same by what each handle is lent as
abbrev pub edit_by : Exporter → Verb → (ℕ → Option Loan) → Result (Exporter × LocalReply) Fault
edit_by e v named = edit_of_own e v (lents_by e named (handles_read subject.Own v))

-- whether a verb is an edit
abbrev pub is_edit : Verb → Bool
is_edit (verb.Append v) = true
is_edit (verb.Extend v) = true
is_edit (verb.Insert index v) = true
is_edit (verb.Pop index) = true
is_edit (verb.Remove v) = true
is_edit verb.Clear = true
is_edit verb.Reverse = true
is_edit (verb.Del key) = true
is_edit (verb.IAdd v) = true
is_edit (verb.IMul count) = true
is_edit (verb.Init options) = true
is_edit verb.Take = true
is_edit verb.Copy = true
is_edit (verb.Set (value.Slice slice) v) = true
is_edit _ = false

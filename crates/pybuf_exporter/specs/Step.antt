-- One command on one exporter: which effect it has, and what stands after it.
use Rattle.std.specs.Prelude.{ℕ, Bool, true, false, List, Result, Ok, Err, if◌then◌else◌, Option}
use Rattle.pybuf_value.specs.declared.faults.Fault.{Fault}
use Rattle.pybuf_value.specs.declared.faults.Fault.TheVariants as fault
use Rattle.pybuf_value.specs.declared.values.Value.{Value}
use Rattle.pybuf_value.specs.declared.values.Value.TheVariants as value
use Rattle.pybuf_command.specs.declared.kinds.Subject.{Subject}
use Rattle.pybuf_command.specs.declared.kinds.Subject.TheVariants as subject
use Rattle.pybuf_command.specs.declared.commands.Verb.{Verb}
use Rattle.pybuf_command.specs.declared.commands.Verb.TheVariants as verb
use Rattle.pybuf_command.specs.declared.commands.LocalReply.{LocalReply}
use Rattle.pybuf_command.specs.declared.commands.LocalReply.TheVariants as reply
use Rattle.pybuf_command.specs.declared.loans.Loan.{Loan}
use Rattle.pybuf_command.specs.Handles.{handles_of, handles_read}
use Rattle.pybuf_state.specs.Exporter.{Exporter}
use Rattle.pybuf_state.specs.Loans.{Lent, are_named, lents_by, names_of, snaps_of}
use Rattle.pybuf_verbs_views.specs.View.{view_of_own, view_of_view}
use Rattle.pybuf_verbs_views.specs.Range.{range_of_own}
use Rattle.pybuf_verbs_views.specs.Slice.{slice_of_view}
use Rattle.pybuf_verbs_views.specs.Cast.{cast_of_view, column_cast_of_view}
use Rattle.pybuf_verbs_views.specs.Release.{release_of_view}
use Rattle.pybuf_verbs_views.specs.Enter.{enter_of_view}
use Rattle.pybuf_verbs_views.specs.Contiguous.{contiguous_of_view}
use Rattle.pybuf_verbs_views.specs.ToReadonly.{toreadonly_of_view}
use Rattle.pybuf_verbs_reads.specs.Get.{get_of_own, item_of_view}
use Rattle.pybuf_verbs_reads.specs.ToBytes.{bytes_of_own, bytes_of_view}
use Rattle.pybuf_verbs_reads.specs.Len.{len_of_own, len_of_view}
use Rattle.pybuf_verbs_reads.specs.Property.{property_of_own, property_of_view}
use Rattle.pybuf_verbs_reads.specs.ToList.{list_of_view}
use Rattle.pybuf_verbs_compare.specs.Compare.{compare_of_own, compare_of_view}
use Rattle.pybuf_verbs_compare.specs.Hash.{hash_of_own, hash_of_view}
use Rattle.pybuf_verbs_compare.specs.Repr.{repr_of_own, repr_of_view}
use Rattle.pybuf_verbs_writes.specs.Set.{set_of_own, set_of_view}
use Rattle.pybuf_verbs_writes.specs.Assign.{assign_of_view}
use Rattle.pybuf_verbs_methods.specs.Calls.{call_of_own, contains_of_own, hex_of_view}
use Rattle.pybuf_verbs_iters.specs.Iterators.{iter_of_own, iter_of_view, effect_on_iterator}
use Rattle.pybuf_verbs_edits.specs.Shrinking.{delete_of_view}
use Rattle.pybuf_verbs_edits.specs.Edits.{edit_of_own}

-- `get` of a view by a key: a slice makes a new view of the items that it picks, and any other key names an
-- item
abbrev pub get_of_view : Exporter → ℕ → Value → Result (Exporter × LocalReply) Fault
get_of_view e k (value.Slice slice) = slice_of_view e k slice
get_of_view e k key = item_of_view e k key

-- `set` of a view by a key: a slice is set to other items, and any other key names the item that is written
abbrev pub set_through_view : Exporter → ℕ → Value → Value → List Lent → Result (Exporter × LocalReply) Fault
set_through_view e k (value.Slice slice) v lents = assign_of_view e k slice v lents
set_through_view e k key v lents = set_of_view e k key v lents

-- `set` of an exporter by a key: a slice is set to other bytes, and any other key names the byte that is
-- written
abbrev pub set_in_own : Exporter → Value → Value → List Lent → Result (Exporter × LocalReply) Fault
set_in_own e (value.Slice slice) v lents = edit_of_own e (verb.Set (value.Slice slice) v) lents
set_in_own e key v lents = set_of_own e key v

-- Whether a command reads what its handles name, each where it lies: a method, a search, or the hexadecimal
-- digits of a view. These commands change nothing.
abbrev pub reads_in_place : Subject → Verb → Bool
reads_in_place subject.Own (verb.Contains v) = true
reads_in_place subject.Own (verb.Call method) = true
reads_in_place (subject.View k) (verb.Hex sep group) = true
reads_in_place s v = false

-- The effect of a verb on the exporter itself. Every further verb is an edit, or an exporter doesn't have it.
abbrev pub effect_on_own : Exporter → Verb → List Lent → Result (Exporter × LocalReply) Fault
effect_on_own e verb.View lents = view_of_own e
effect_on_own e (verb.Range from to) lents = range_of_own e from to
effect_on_own e (verb.Get key) lents = get_of_own e key
effect_on_own e (verb.Set key value) lents = set_in_own e key value lents
effect_on_own e (verb.ToBytes order) lents = bytes_of_own e order
effect_on_own e verb.Len lents = len_of_own e
effect_on_own e (verb.Property name) lents = property_of_own e name
effect_on_own e (verb.Compare op other) lents = compare_of_own e op other lents
effect_on_own e verb.Hash lents = hash_of_own e
effect_on_own e verb.Repr lents = repr_of_own e
effect_on_own e verb.Iter lents = iter_of_own e
effect_on_own e (verb.Contains v) lents = contains_of_own e v (snaps_of lents)
effect_on_own e (verb.Call method) lents = call_of_own e method (snaps_of lents)
effect_on_own e v lents = edit_of_own e v lents

-- the effect of a verb on a view
abbrev pub effect_on_view : Exporter → ℕ → Verb → List Lent → Result (Exporter × LocalReply) Fault
effect_on_view e k verb.View lents = view_of_view e k
effect_on_view e k (verb.Get key) lents = get_of_view e k key
effect_on_view e k (verb.Set key value) lents = set_through_view e k key value lents
effect_on_view e k (verb.Cast format shape) lents = cast_of_view e k format shape
effect_on_view e k (verb.CastF format shape) lents = column_cast_of_view e k format shape
effect_on_view e k (verb.ToBytes order) lents = bytes_of_view e k order
effect_on_view e k verb.Release lents = release_of_view e k
effect_on_view e k verb.Enter lents = enter_of_view e k
effect_on_view e k verb.Exit lents = release_of_view e k
effect_on_view e k verb.ToContiguous lents = contiguous_of_view e k
effect_on_view e k verb.ToList lents = list_of_view e k
effect_on_view e k verb.Len lents = len_of_view e k
effect_on_view e k (verb.Property name) lents = property_of_view e k name
effect_on_view e k verb.ToReadonly lents = toreadonly_of_view e k
effect_on_view e k (verb.Del key) lents = delete_of_view e k
effect_on_view e k (verb.Compare op other) lents = compare_of_view e k op other lents
effect_on_view e k verb.Hash lents = hash_of_view e k
effect_on_view e k verb.Repr lents = repr_of_view e k
effect_on_view e k verb.Iter lents = iter_of_view e k
effect_on_view e k (verb.Hex sep group) lents = hex_of_view e k sep group (snaps_of lents)
effect_on_view e k _ lents = Err fault.UnknownName

-- The effect of the verb on the subject, with what is lent to it. If the subject's kind has no such effect, the
-- verb is an unknown name.
abbrev pub effect : Exporter → Subject → Verb → List Lent → Result (Exporter × LocalReply) Fault
effect e subject.Own v lents = effect_on_own e v lents
effect e (subject.View k) v lents = effect_on_view e k v lents
effect e (subject.Iter k) v lents = effect_on_iterator e k v

-- the same by what each handle is lent as
abbrev pub effect_by : Exporter → Subject → Verb → (ℕ → Option Loan) → Result (Exporter × LocalReply) Fault
effect_by e s v named = effect e s v (lents_by e named (handles_read s v))

-- The answer by what each handle is lent as. An unknown handle is refused before all else, even if the effect
-- wouldn't look at the value that has it.
abbrev pub answer_by : Exporter → Subject → Verb → (ℕ → Option Loan) → Result (Exporter × LocalReply) Fault
answer_by e s v named =
    if are_named e named (handles_of v) then effect e s v (lents_by e named (handles_read s v))
    else Err fault.UnknownName

-- the same by loans
abbrev pub answer_of : Exporter → Subject → Verb → List (ℕ × Loan) → Result (Exporter × LocalReply) Fault
answer_of e s v loans = answer_by e s v (names_of loans)

-- A refusal leaves the exporter as it was.
abbrev pub settled_answer : Exporter → Result (Exporter × LocalReply) Fault → Exporter × LocalReply
settled_answer e (Ok after) = after
settled_answer e (Err f) = (e, reply.Refused f)

-- the exporter after a command, and its reply, by what each handle is lent as
abbrev pub estep_by : Exporter → Subject → Verb → (ℕ → Option Loan) → Exporter × LocalReply
estep_by e s v named = settled_answer e (answer_by e s v named)

-- the same by loans
abbrev pub estep : Exporter → Subject → Verb → List (ℕ × Loan) → Exporter × LocalReply
estep e s v loans = estep_by e s v (names_of loans)

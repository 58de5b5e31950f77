-- Memoryviews: what plain calls owe, which take numbers, bytes and other views and no command.
use Rattle.std.specs.Prelude.{ℕ, ℤ, pos, List, [], map, Option, Result}
use Rattle.pybuf_value.specs.declared.halt.Halt.{Halt}
use Rattle.pybuf_value.specs.declared.values.PySlice.{PySlice}
use Rattle.pybuf_value.specs.declared.values.Scalar.{Scalar}
use Rattle.pybuf_value.specs.declared.values.Scalar.TheVariants as scalar
use Rattle.pybuf_value.specs.declared.values.Value.{Value}
use Rattle.pybuf_value.specs.declared.values.Value.TheVariants as value
use Rattle.pybuf_command.specs.declared.commands.LocalReply.{LocalReply}
use Rattle.pybuf_command.specs.declared.commands.Verb.{Verb}
use Rattle.pybuf_command.specs.declared.kinds.Subject.TheVariants as subject
use Rattle.pybuf_command.specs.declared.loans.Loan.{Loan}
use Rattle.pybuf_memoryview.specs.Snaps.{snap_of_copy}
use Rattle.pybuf_state.specs.Answers.{Answers, as_view, as_done}
use Rattle.pybuf_state.specs.Exporter.{Exporter}
use Rattle.pybuf_state.specs.Fresh.{vector_of}
use Rattle.pybuf_state.specs.Live.{layout_of}
use Rattle.pybuf_state.specs.Snaps.{snap_of_subject}
use Rattle.pybuf_verbs_views.specs.Slice.{slice_of_view}
use Rattle.pybuf_verbs_views.specs.Cast.{cast_of_view}
use Rattle.pybuf_verbs_writes.specs.Assign.{assign_of_view, assign_of_lent}
use Rattle.pybuf_exporter.specs.Stepping.{StateStepsBy, number_put}
use Rattle.pybuf_exporter.specs.Stored.{StoredExporter}
use Rattle.pybuf_exporter.specs.Telling.{TellsRefusal}

-- a verb on a view, with its loans
abbrev pub ViewStepsBy : {E : Type 0} → ℕ → Verb → List (ℕ × Loan) → StoredExporter → Result LocalReply E → StoredExporter → Type 0
ViewStepsBy view verb loans old result new = StateStepsBy (subject.View view) verb loans old result new

-- a view of the slice that was converted
abbrev pub Slices : (PySlice → Type 0) → ℕ → StoredExporter → Result ℕ Halt → StoredExporter → Type 0
Slices Converts view old result new = (s : PySlice) × Converts s × Answers (slice_of_view old.exporter view s) old.exporter (as_view result) new.exporter

-- a shape as the value that a cast takes
abbrev pub shape_value : List ℕ → Value
shape_value shape = value.Tuple (map (λ n. scalar.Int (pos n)) shape)

-- a cast to the format that a text spells, and to a shape if there is one
abbrev pub Casts : Scalar → Option Value → ℕ → StoredExporter → Result ℕ Halt → StoredExporter → Type 0
Casts format shape view old result new = Answers (cast_of_view old.exporter view (value.One format) shape) old.exporter (as_view result) new.exporter

-- a number is set as the item at an index
abbrev pub SetsNumber : ℕ → ℤ → ℤ → StoredExporter → Result (Unit {0}) Halt → StoredExporter → Type 0
SetsNumber view index number old result new = TellsRefusal (number_put old.exporter view index number) old.exporter result new.exporter

-- bytes are assigned to the slice that was converted
abbrev pub AssignsBytes : (PySlice → Type 0) → ℕ → List ℕ → StoredExporter → Result (Unit {0}) Halt → StoredExporter → Type 0
AssignsBytes Converts view bytes old result new =
    (s : PySlice) × Converts s ×
    Answers (assign_of_view old.exporter view s (value.One (scalar.Bytes bytes)) []) old.exporter (as_done result) new.exporter

-- a view of an exporter is assigned to it
abbrev pub AssignsView : (PySlice → Type 0) → ℕ → StoredExporter → ℕ → StoredExporter → Result (Unit {0}) Halt → StoredExporter → Type 0
AssignsView Converts view other_state other old result new =
    (s : PySlice) × Converts s ×
    Answers (assign_of_lent old.exporter view s (snap_of_subject other_state.exporter (subject.View other))) old.exporter (as_done result) new.exporter

-- a vector of the bytes of a view
abbrev pub vector_of_view : Exporter → ℕ → Exporter
vector_of_view e view = vector_of (layout_of e view).readonly (snap_of_copy e.bytes (layout_of e view))

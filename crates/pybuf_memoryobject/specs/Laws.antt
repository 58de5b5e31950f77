-- A call on a memoryview with plain arguments is a command. It changes what its command changes, and its answer
-- is that command's reply in another form.
use Rattle.std.specs.Prelude.{◌≡◌, ℕ, ℤ, List, [], ◌∷◌, Option, None, Result}
use Rattle.pybuf_value.specs.declared.faults.Fault.{Fault}
use Rattle.pybuf_value.specs.declared.snaps.Snap.{Snap}
use Rattle.pybuf_value.specs.declared.values.Scalar.TheVariants as scalar
use Rattle.pybuf_value.specs.declared.values.Value.{Value}
use Rattle.pybuf_value.specs.declared.values.Value.TheVariants as value
use Rattle.pybuf_value.specs.Making.{slice_of}
use Rattle.pybuf_command.specs.declared.kinds.Subject.{Subject}
use Rattle.pybuf_command.specs.declared.kinds.Subject.TheVariants as subject
use Rattle.pybuf_command.specs.declared.commands.Verb.{Verb}
use Rattle.pybuf_command.specs.declared.commands.Verb.TheVariants as verb
use Rattle.pybuf_command.specs.declared.commands.PropertyName.TheVariants as name
use Rattle.pybuf_command.specs.declared.commands.LocalReply.{LocalReply}
use Rattle.pybuf_state.specs.Exporter.{Exporter}
use Rattle.pybuf_state.specs.Loans.{loan_of_snap}
use Rattle.pybuf_verbs_views.specs.View.{view_of_own}
use Rattle.pybuf_verbs_views.specs.Slice.{slice_of_view}
use Rattle.pybuf_verbs_views.specs.Cast.{cast_of_view}
use Rattle.pybuf_verbs_views.specs.Release.{release_of_view}
use Rattle.pybuf_verbs_reads.specs.Get.{item_of_view}
use Rattle.pybuf_verbs_reads.specs.ToBytes.{bytes_of_view}
use Rattle.pybuf_verbs_reads.specs.Property.{property_of_view}
use Rattle.pybuf_verbs_writes.specs.Assign.{assign_of_view, assign_of_lent}
use Rattle.pybuf_exporter.specs.Step.{estep, settled_answer}

-- The effect is what the command with this verb does on this subject, without loans.
abbrev pub IsCommand : Exporter → Subject → Verb → Result (Exporter × LocalReply) Fault → Type 0
IsCommand e s v effect = settled_answer e effect ≡ estep e s v []

-- a whole number as a value
abbrev pub number_value : ℤ → Value
number_value n = value.One (scalar.Int n)

-- a text as a value
abbrev pub text_value : List ℕ → Value
text_value text = value.One (scalar.Text text)

-- `view`
abbrev pub AllIsViewed : Type 0
AllIsViewed = (e : Exporter) → IsCommand e subject.Own verb.View (view_of_own e)

-- `get` of a slice
abbrev pub SlicesAreMade : Type 0
SlicesAreMade = (e : Exporter) (k : ℕ) (start stop step : Option ℤ) →
    IsCommand e (subject.View k) (verb.Get (value.Slice (slice_of start stop step))) (slice_of_view e k (slice_of start stop step))

-- `cast`
abbrev pub CastsAreMade : Type 0
CastsAreMade = (e : Exporter) (k : ℕ) (format : List ℕ) →
    IsCommand e (subject.View k) (verb.Cast (text_value format) None) (cast_of_view e k (text_value format) None)

-- `release`
abbrev pub ReleasesRelease : Type 0
ReleasesRelease = (e : Exporter) (k : ℕ) → IsCommand e (subject.View k) verb.Release (release_of_view e k)

-- `get` of an index
abbrev pub IndicesGet : Type 0
IndicesGet = (e : Exporter) (k : ℕ) (index : ℤ) → IsCommand e (subject.View k) (verb.Get (number_value index)) (item_of_view e k (number_value index))

-- `bytes`
abbrev pub VectorsAreBytes : Type 0
VectorsAreBytes = (e : Exporter) (k : ℕ) → IsCommand e (subject.View k) (verb.ToBytes None) (bytes_of_view e k None)

-- `prop` of the shape
abbrev pub ShapesAreShown : Type 0
ShapesAreShown = (e : Exporter) (k : ℕ) → IsCommand e (subject.View k) (verb.Property name.Shape) (property_of_view e k name.Shape)

-- `prop` of the strides
abbrev pub StridesAreShown : Type 0
StridesAreShown = (e : Exporter) (k : ℕ) → IsCommand e (subject.View k) (verb.Property name.Strides) (property_of_view e k name.Strides)

-- `set` of a slice to bytes
abbrev pub BytesAreAssigned : Type 0
BytesAreAssigned = (e : Exporter) (k : ℕ) (start stop step : Option ℤ) (bytes : List ℕ) →
    IsCommand e (subject.View k) (verb.Set (value.Slice (slice_of start stop step)) (value.One (scalar.Bytes bytes))) (assign_of_view e k (slice_of start stop step) (value.One (scalar.Bytes bytes)) [])

-- `set` of a slice to what a handle is lent as, with only that loan
abbrev pub LentIsAssigned : Type 0
LentIsAssigned = (e : Exporter) (k : ℕ) (start stop step : Option ℤ) (lent : Option Snap) →
    settled_answer e (assign_of_lent e k (slice_of start stop step) lent)
    ≡ estep e (subject.View k) (verb.Set (value.Slice (slice_of start stop step)) (value.One (scalar.Handle 0))) ((0, loan_of_snap lent) ∷ [])

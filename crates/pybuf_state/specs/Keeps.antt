-- What a command keeps of an exporter.
use Rattle.std.specs.Prelude.{◌≡◌, ◌⊎◌, ℕ, ◌<◌, ◌==◌, not, List, [], length, Bool, true, false, Result, Some, slice_get}
use Rattle.std.specs.List.{list_any}
use Rattle.std.specs.Str.{byte}
use Rattle.pybuf_value.specs.declared.faults.Fault.{Fault}
use Rattle.pybuf_value.specs.Refusing.{IfDone}
use Rattle.pybuf_command.specs.declared.commands.LocalReply.{LocalReply}
use Rattle.pybuf_command.specs.declared.commands.LocalReply.TheVariants as reply
use Rattle.pybuf_command.specs.declared.kinds.ExporterKind.{ExporterKind}
use Rattle.pybuf_command.specs.declared.kinds.ExporterKind.TheVariants as kind
use Rattle.pybuf_command.specs.declared.kinds.Subject.{Subject}
use Rattle.pybuf_command.specs.declared.kinds.Subject.TheVariants as subject
use Rattle.pybuf_command.specs.Kinds.{holds_readonly}
use Rattle.pybuf_state.specs.Exporter.{Exporter, View, Iterator, exports_of, has_subject}
use Rattle.pybuf_state.specs.Sound.{IsSoundExporter}
use Rattle.pybuf_state.specs.Spaced.{IsSpaced}
use Rattle.pybuf_state.specs.Fresh.{IsCopyOf}

-- after a command a view is as it was, or it was released
abbrev pub IsSameOrReleased : View → View → Type 0
IsSameOrReleased old new = (new ≡ old) ⊎ (new ≡ record old { released = true })

-- each view keeps its number, and the length at which it was made
abbrev pub ViewsStay : List View → List View → Type 0
ViewsStay old new = (k : ℕ) (v : View) → slice_get old k ≡ Some v → (w : View) × (slice_get new k ≡ Some w) × IsSameOrReleased v w

-- views are only added or released, and an exporter with an unreleased view keeps its length
pub record LengthsStay (old new : Exporter) : Type 0 where
  pub views : ViewsStay old.views new.views
  pub bytes : 0 < exports_of old → length new.bytes ≡ length old.bytes

-- whether an exporter is a vector, whose bytes can be taken out as a whole
abbrev pub is_vector : ExporterKind → Bool
is_vector (kind.Vector readonly) = true
is_vector _ = false

-- the bytes of a vector were taken out, and it had no unreleased view
pub record IsEmptied (old new : Exporter) : Type 0 where
  pub vector : is_vector old.kind ≡ true
  pub free : exports_of old ≡ 0
  pub empty : new.bytes ≡ []

-- the bytes of an exporter that is read-only stay, unless they are taken out of a vector as a whole
abbrev pub ReadOnlyBytesStay : Exporter → Exporter → Type 0
ReadOnlyBytesStay old new = holds_readonly old.kind ≡ true → (new.bytes ≡ old.bytes) ⊎ IsEmptied old new

-- What each command keeps of a sound exporter. Commands on iterators, and the one that makes an iterator, keep all of
-- this except the iterators.
pub record Keeps (old new : Exporter) : Type 0 where
  pub kind : new.kind ≡ old.kind
  pub sound : IsSoundExporter new
  pub lengths : LengthsStay old new
  pub readonly_bytes : ReadOnlyBytesStay old new
  pub iterators : new.iterators ≡ old.iterators
  pub items_apart : IsSpaced old → IsSpaced new

-- after a command an iterator goes over the same subject, and if it was exhausted, it is as it was
pub record IsSameOrMoved (old new : Iterator) : Type 0 where
  pub subject : new.subject ≡ old.subject
  pub exhausted : old.exhausted ≡ true → new ≡ old

-- each iterator keeps its number
abbrev pub IteratorsStay : List Iterator → List Iterator → Type 0
IteratorsStay old new = (k : ℕ) (it : Iterator) → slice_get old k ≡ Some it → (after : Iterator) × (slice_get new k ≡ Some after) × IsSameOrMoved it after

-- whether a text has no line feed
abbrev pub is_one_line : List ℕ → Bool
is_one_line text = not (list_any (λ b. b == byte "\n") text)

-- Whether a reply is no refusal, makes no exporter, shows no more than one line, and names no view and no iterator but
-- those that the exporter has.
abbrev pub is_answer : Exporter → LocalReply → Bool
is_answer e (reply.Refused f) = false
is_answer e (reply.Fresh snap) = false
is_answer e (reply.Shown text) = is_one_line text
is_answer e (reply.View k) = has_subject e (subject.View k)
is_answer e (reply.Iter k) = has_subject e (subject.Iter k)
is_answer e _ = true

-- What holds of an effect that isn't refused. It keeps all this. Its reply is no refusal, makes no exporter, shows no
-- more than one line, and names only what the exporter has afterwards.
pub record IsCarriedOut (old : Exporter) (after : Exporter × LocalReply) : Type 0 where
  pub keeps : IsSoundExporter old → Keeps old after.0
  pub answers : is_answer after.0 after.1 ≡ true

-- the same for an effect that may be refused
abbrev pub IsSafe : Exporter → Result (Exporter × LocalReply) Fault → Type 0
IsSafe old effect = IfDone (IsCarriedOut old) effect

-- an effect of iterators that isn't refused changes only iterators, and its reply is as `IsCarriedOut` says
pub record IsIterated (old : Exporter) (after : Exporter × LocalReply) : Type 0 where
  pub same : after.0 ≡ record old { iterators = after.0.iterators }
  pub iterators : IteratorsStay old.iterators after.0.iterators
  pub answers : is_answer after.0 after.1 ≡ true

-- whether the reply is a copy of the subject
abbrev pub RepliesCopy : Exporter → Subject → LocalReply → Type 0
RepliesCopy old s (reply.Fresh snap) = IsCopyOf old s snap
RepliesCopy old s _ = ⊥

-- an effect that isn't refused leaves the exporter as it is, and replies a copy of the subject
pub record IsCopied (old : Exporter) (s : Subject) (after : Exporter × LocalReply) : Type 0 where
  pub same : after.0 ≡ old
  pub copied : RepliesCopy old s after.1

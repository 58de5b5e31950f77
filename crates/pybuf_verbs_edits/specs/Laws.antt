-- Each edit keeps a sound exporter, replies a refusal only if it is refused, and asks before it resizes.
use Rattle.std.specs.Prelude.{◌≡◌, ◌⊎◌, ℕ, Bool, true, List, Result, Ok, Err}
use Rattle.pybuf_value.specs.declared.faults.Fault.{Fault}
use Rattle.pybuf_value.specs.declared.faults.Fault.TheVariants as fault
use Rattle.pybuf_value.specs.Refusing.{IfDone}
use Rattle.pybuf_value.specs.declared.values.Value.{Value}
use Rattle.pybuf_command.specs.declared.kinds.ExporterKind.TheVariants as kind
use Rattle.pybuf_command.specs.declared.kinds.Subject.TheVariants as subject
use Rattle.pybuf_command.specs.declared.commands.Verb.{Verb}
use Rattle.pybuf_command.specs.declared.commands.Verb.TheVariants as verb
use Rattle.pybuf_command.specs.declared.commands.LocalReply.{LocalReply}
use Rattle.pybuf_state.specs.Exporter.{Exporter}
use Rattle.pybuf_state.specs.Keeps.{IsSafe, IsCopied}
use Rattle.pybuf_state.specs.Resizing.{has_exports}
use Rattle.pybuf_state.specs.Loans.{Lent}
use Rattle.pybuf_verbs_edits.specs.Common.{is_itself}
use Rattle.pybuf_verbs_edits.specs.Shrinking.{delete_of_view}
use Rattle.pybuf_verbs_edits.specs.Edits.{edit_of_own}
use Rattle.pybuf_verbs_edits.specs.Asking.{asks}

-- `copy` replies a copy of the bytearray, and every other edit is safe.
abbrev pub EditIsSafe : Exporter → Verb → Result (Exporter × LocalReply) Fault → Type 0
EditIsSafe e verb.Copy after = IfDone (IsCopied e subject.Own) after
EditIsSafe e v after = IsSafe e after

abbrev pub EditsAreSafe : Type 0
EditsAreSafe = (e : Exporter) (v : Verb) (lents : List Lent) → EditIsSafe e v (edit_of_own e v lents)

abbrev pub DeleteOfViewIsSafe : Type 0
DeleteOfViewIsSafe = (e : Exporter) (k : ℕ) → IsSafe e (delete_of_view e k)

-- If an earlier check refuses, the answer is that refusal, whether a view is unreleased or not. If the edit
-- passes these checks and asks for another length, the answer is `BufferError` while a view is unreleased.
-- Otherwise the answer is `BufferError` only if an earlier check gives it.
pub record IsAsked (e : Exporter) (asked : Result Bool Fault) (effect : Result (Exporter × LocalReply) Fault) : Type 0 where
  pub earlier : (f : Fault) → asked ≡ Err f → effect ≡ Err f
  pub refused : asked ≡ Ok true → has_exports e ≡ true → effect ≡ Err fault.Buffer
  pub only : effect ≡ Err fault.Buffer → ((asked ≡ Ok true) × (has_exports e ≡ true)) ⊎ (asked ≡ Err fault.Buffer)

abbrev pub EditsAskBeforeTheyResize : Type 0
EditsAskBeforeTheyResize = (e : Exporter) (v : Verb) (lents : List Lent) → IsAsked e (asks e v lents) (edit_of_own e v lents)

-- A bytearray is added to itself: `iadd` gets a handle that is lent as the exporter itself.
pub record IsAddedToItself (e : Exporter) (v : Verb) (lents : List Lent) : Type 0 where
  pub byte_array : e.kind ≡ kind.ByteArray
  pub source : Value
  pub added : v ≡ verb.IAdd source
  pub itself : is_itself source lents ≡ true

-- No other earlier check gives `BufferError`.
abbrev pub OnlyAddingItselfIsRefusedEarlier : Type 0
OnlyAddingItselfIsRefusedEarlier = (e : Exporter) (v : Verb) (lents : List Lent) → asks e v lents ≡ Err fault.Buffer → IsAddedToItself e v lents

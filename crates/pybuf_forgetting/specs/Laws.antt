-- The laws of forgetting: it changes no reply, now or later.
use Rattle.std.specs.Prelude.{◌≡◌, ℕ, Bool, true, false, List, [], ◌∷◌, length, map, Option, Some, slice_get, if◌then◌else◌}
use Rattle.std.specs.Option.{option_map}
use Rattle.pybuf_value.specs.declared.snaps.Snap.{Snap}
use Rattle.pybuf_value.specs.declared.values.Value.{Value}
use Rattle.pybuf_value.specs.Snaps.{snap_of}
use Rattle.pybuf_bytes.specs.Options.{bytes_of_options}
use Rattle.pybuf_command.specs.declared.kinds.Subject.{Subject}
use Rattle.pybuf_command.specs.declared.commands.Verb.{Verb}
use Rattle.pybuf_command.specs.declared.commands.LocalReply.{LocalReply}
use Rattle.pybuf_command.specs.declared.commands.LocalCommand.{LocalCommand}
use Rattle.pybuf_command.specs.declared.loans.Loan.{Loan}
use Rattle.pybuf_state.specs.Exporter.{Exporter, View, Iterator, exports_of, has_subject, live_layout}
use Rattle.pybuf_state.specs.Sound.{IsSoundExporter}
use Rattle.pybuf_state.specs.Spaced.{IsSpaced}
use Rattle.pybuf_state.specs.Snaps.{snap_of_subject}
use Rattle.pybuf_exporter.specs.Step.{estep, estep_by}
use Rattle.pybuf_exporter.specs.Stepping.{step_of}
use Rattle.pybuf_forgetting.specs.Forgotten.{no_view, forgotten_subject, forgotten, forgotten_snap, forgotten_pair}

-- ---- forgetting by itself

abbrev pub ForgettingTwiceIsForgettingOnce : Type 0
ForgettingTwiceIsForgettingOnce = (e : Exporter) → forgotten (forgotten e) ≡ forgotten e

-- What forgetting leaves: kind and bytes, every number, the number of unreleased views, each unreleased view, each
-- iterator that isn't exhausted, and which views are released and which iterators are exhausted.
pub record KeepsAllElse (e after : Exporter) : Type 0 where
  pub kind : after.kind ≡ e.kind
  pub bytes : after.bytes ≡ e.bytes
  pub view_count : length after.views ≡ length e.views
  pub iterator_count : length after.iterators ≡ length e.iterators
  pub subjects : (s : Subject) → has_subject after s ≡ has_subject e s
  pub exports : exports_of after ≡ exports_of e
  pub layouts : (k : ℕ) → live_layout after k ≡ live_layout e k
  pub views : (k : ℕ) (v : View) → slice_get e.views k ≡ Some v → v.released ≡ false → slice_get after.views k ≡ Some v
  pub iterators : (k : ℕ) (it : Iterator) → slice_get e.iterators k ≡ Some it → it.exhausted ≡ false → slice_get after.iterators k ≡ Some it
  pub released : (k : ℕ) → option_map (λ (v : View). v.released) (slice_get after.views k) ≡ option_map (λ (v : View). v.released) (slice_get e.views k)
  pub exhausted : (k : ℕ) → option_map (λ (it : Iterator). it.exhausted) (slice_get after.iterators k) ≡ option_map (λ (it : Iterator). it.exhausted) (slice_get e.iterators k)

-- What forgetting leaves of the rest: every released view is one and the same, and has no bytes. An exhausted iterator
-- stands at 0, and if it goes over a view or an iterator, then over that of the number 0.
pub record LeavesNothing (after : Exporter) : Type 0 where
  pub views : (k : ℕ) (v : View) → slice_get after.views k ≡ Some v → v.released ≡ true → v ≡ no_view
  pub positions : (k : ℕ) (it : Iterator) → slice_get after.iterators k ≡ Some it → it.exhausted ≡ true → it.position ≡ 0
  pub subjects : (k : ℕ) (it : Iterator) → slice_get after.iterators k ≡ Some it → it.exhausted ≡ true → it.subject ≡ forgotten_subject it.subject

abbrev pub ForgettingLeavesNothing : Type 0
ForgettingLeavesNothing = (e : Exporter) → LeavesNothing (forgotten e)

abbrev pub ForgettingKeepsAllElse : Type 0
ForgettingKeepsAllElse = (e : Exporter) → KeepsAllElse e (forgotten e)

abbrev pub ForgettingKeepsSound : Type 0
ForgettingKeepsSound = (e : Exporter) → IsSoundExporter e → IsSoundExporter (forgotten e)

abbrev pub ForgettingKeepsItemsApart : Type 0
ForgettingKeepsItemsApart = (e : Exporter) → IsSpaced e → IsSpaced (forgotten e)

-- ---- one command

-- Two steps are the same but for what may be forgotten: the same reply, the same bytes, and exporters that are the same
-- once both have forgotten.
pub record IsSameStep (one other : Exporter × LocalReply) : Type 0 where
  pub reply : one.1 ≡ other.1
  pub bytes : one.0.bytes ≡ other.0.bytes
  pub exporter : forgotten one.0 ≡ forgotten other.0

-- So it is for every command on every subject, by what each handle is lent as and by loans, whatever the exporter is.
abbrev pub ForgettingChangesNoStepByNames : Type 0
ForgettingChangesNoStepByNames = (e : Exporter) (s : Subject) (v : Verb) (named : ℕ → Option Loan) → IsSameStep (estep_by (forgotten e) s v named) (estep_by e s v named)

abbrev pub ForgettingChangesNoStep : Type 0
ForgettingChangesNoStep = (e : Exporter) (s : Subject) (v : Verb) (loans : List (ℕ × Loan)) → IsSameStep (estep (forgotten e) s v loans) (estep e s v loans)

-- ---- another exporter that lends

-- What is lent of a subject is the same once a released view's snap is forgotten.
abbrev pub ForgettingChangesNoSnap : Type 0
ForgettingChangesNoSnap = (e : Exporter) (s : Subject) → option_map forgotten_snap (snap_of_subject (forgotten e) s) ≡ option_map forgotten_snap (snap_of_subject e s)

-- A command does the same if the other exporters have forgotten.
abbrev pub ForgottenLoansChangeNoStep : Type 0
ForgottenLoansChangeNoStep = (e : Exporter) (s : Subject) (v : Verb) (loans : List (ℕ × Loan)) → estep e s v (map forgotten_pair loans) ≡ estep e s v loans

-- Two lists of pairs name the same for each handle once released views are forgotten.
abbrev pub NameAlike : List (ℕ × Snap) → List (ℕ × Snap) → Type 0
NameAlike pairs others = (h : ℕ) → option_map forgotten_snap (snap_of pairs h) ≡ option_map forgotten_snap (snap_of others h)

-- The bytes that something new is made of are the same with either.
abbrev pub ForgottenPairsChangeNoBytes : Type 0
ForgottenPairsChangeNoBytes =
    (pairs others : List (ℕ × Snap)) (source encoding errors : Option Value) → NameAlike pairs others → bytes_of_options pairs source encoding errors ≡ bytes_of_options others source encoding errors

-- ---- runs

-- A turn of a run is a command, before which the exporter may forget.
pub record Turn : Type 0 where
  pub forgets : Bool
  pub command : LocalCommand

abbrev pub begun : Exporter → Turn → Exporter
begun e turn = if turn.forgets then forgotten e else e

-- the replies to the commands of a run, in order
abbrev pub replies_of : Exporter → List Turn → List LocalReply
replies_of e [] = []
replies_of e (turn ∷ turns) = (step_of (begun e turn) turn.command).1 ∷ replies_of (step_of (begun e turn) turn.command).0 turns

-- the exporter after a run
abbrev pub after_run : Exporter → List Turn → Exporter
after_run e [] = e
after_run e (turn ∷ turns) = after_run (step_of (begun e turn) turn.command).0 turns

-- the same commands, and nothing is forgotten between them
abbrev pub without_forgetting : List Turn → List Turn
without_forgetting turns = map (λ (turn : Turn). record turn { forgets = false }) turns

-- A run replies the same wherever the exporter forgets in it, and at its end there are the same bytes.
pub record IsSameRun (e : Exporter) (turns : List Turn) : Type 0 where
  pub replies : replies_of e turns ≡ replies_of e (without_forgetting turns)
  pub bytes : (after_run e turns).bytes ≡ (after_run e (without_forgetting turns)).bytes
  pub exporter : forgotten (after_run e turns) ≡ forgotten (after_run e (without_forgetting turns))

abbrev pub ForgettingChangesNoRun : Type 0
ForgettingChangesNoRun = (e : Exporter) (turns : List Turn) → IsSameRun e turns

-- Laws over every command on one exporter.
use Rattle.std.specs.Prelude.{◌≡◌, ◌≢◌, ◌⊎◌, ℕ, zero, suc, ◌+◌, ◌-◌, ◌<◌, Bool, true, false, List, [], ◌∷◌, ◌++◌, length, map, drop, replicate, slice_get, slice_index, Option, Result, Ok, Err, Some}
use Rattle.pybuf_value.specs.declared.faults.Fault.{Fault}
use Rattle.pybuf_value.specs.declared.faults.Fault.TheVariants as fault
use Rattle.pybuf_value.specs.declared.values.Scalar.TheVariants as scalar
use Rattle.pybuf_value.specs.declared.values.Value.{Value}
use Rattle.pybuf_value.specs.declared.values.Value.TheVariants as value
use Rattle.pybuf_value.specs.declared.snaps.Snap.{Snap}
use Rattle.pybuf_struct.specs.Formats.{Format, format_of}
use Rattle.pybuf_struct.specs.Values.{item_of, values}
use Rattle.pybuf_bytes.specs.Options.{bytes_of_options}
use Rattle.pybuf_desc.specs.Layouts.{Layout}
use Rattle.pybuf_desc.specs.Items.{bytes_at}
use Rattle.pybuf_command.specs.declared.kinds.ExporterKind.TheVariants as kind
use Rattle.pybuf_command.specs.declared.kinds.Subject.{Subject}
use Rattle.pybuf_command.specs.declared.kinds.Subject.TheVariants as subject
use Rattle.pybuf_command.specs.declared.commands.Verb.{Verb}
use Rattle.pybuf_command.specs.declared.commands.Verb.TheVariants as verb
use Rattle.pybuf_command.specs.declared.commands.LocalReply.{LocalReply}
use Rattle.pybuf_command.specs.declared.commands.LocalReply.TheVariants as reply
use Rattle.pybuf_command.specs.declared.loans.Loan.{Loan}
use Rattle.pybuf_command.specs.declared.loans.Loan.TheVariants as loan
use Rattle.pybuf_command.specs.Loans.{loan_of}
use Rattle.pybuf_command.specs.Handles.{handles_of, handles_read}
use Rattle.pybuf_memoryview.specs.Items.{byte_item, item_by}
use Rattle.pybuf_state.specs.Exporter.{Exporter, Iterator, has_subject, live_layout}
use Rattle.pybuf_state.specs.Loans.{are_known, are_named, lent_for_each, lents_by}
use Rattle.pybuf_state.specs.Sound.{IsSoundExporter}
use Rattle.pybuf_state.specs.Spaced.{IsSpaced}
use Rattle.pybuf_state.specs.Fresh.{IsCopyOf}
use Rattle.pybuf_state.specs.Keeps.{LengthsStay, ReadOnlyBytesStay, IteratorsStay, is_one_line}
use Rattle.pybuf_state.specs.Resizing.{has_exports}
use Rattle.pybuf_verbs_edits.specs.Edits.{is_edit}
use Rattle.pybuf_verbs_edits.specs.Asking.{asks}
use Rattle.pybuf_exporter.specs.Step.{estep, estep_by, reads_in_place}

-- Each command keeps an exporter sound.
abbrev pub CommandsKeepSound : Type 0
CommandsKeepSound = (e : Exporter) (s : Subject) (v : Verb) (loans : List (ℕ × Loan)) → IsSoundExporter e → IsSoundExporter (estep e s v loans).0

-- Views are only added or released, and each keeps the length that it was made at. An exporter with an
-- unreleased view keeps its length.
abbrev pub LengthsStayUnderCommands : Type 0
LengthsStayUnderCommands = (e : Exporter) (s : Subject) (v : Verb) (loans : List (ℕ × Loan)) → IsSoundExporter e → LengthsStay e (estep e s v loans).0

-- No command changes the bytes of an exporter that can only be read.
abbrev pub ReadOnlyBytesStayUnderCommands : Type 0
ReadOnlyBytesStayUnderCommands = (e : Exporter) (s : Subject) (v : Verb) (loans : List (ℕ × Loan)) → IsSoundExporter e → ReadOnlyBytesStay e (estep e s v loans).0

-- Each iterator keeps its number and what it goes over, and an exhausted one stays as it is.
abbrev pub IteratorsStayUnderCommands : Type 0
IteratorsStayUnderCommands = (e : Exporter) (s : Subject) (v : Verb) (loans : List (ℕ × Loan)) → IsSoundExporter e → IteratorsStay e.iterators (estep e s v loans).0.iterators

-- whether a command makes an iterator, or its subject is one
abbrev pub is_of_iterators : Subject → Verb → Bool
is_of_iterators (subject.Iter k) v = true
is_of_iterators s verb.Iter = true
is_of_iterators s v = false

-- No other command changes an iterator.
abbrev pub OthersLeaveIterators : Type 0
OthersLeaveIterators =
    (e : Exporter) (s : Subject) (v : Verb) (loans : List (ℕ × Loan)) → IsSoundExporter e → is_of_iterators s v ≡ false → (estep e s v loans).0.iterators ≡ e.iterators

-- These commands change nothing else.
abbrev pub IterationChangesNothingElse : Type 0
IterationChangesNothingElse =
    (e : Exporter) (s : Subject) (v : Verb) (loans : List (ℕ × Loan)) → is_of_iterators s v ≡ true
    → (estep e s v loans).0 ≡ record e { iterators = (estep e s v loans).0.iterators }

-- what n calls of `next` on an iterator reply, one after the other
abbrev pub nexts : Exporter → ℕ → ℕ → List LocalReply
nexts e k zero = []
nexts e k (suc n) = (estep e (subject.Iter k) verb.Next []).1 ∷ nexts (estep e (subject.Iter k) verb.Next []).0 k n

-- An iterator over bytes gives the bytes from its position on, in order and each once. Then it stops, however
-- often it is asked again.
abbrev pub IteratorsGiveTheBytes : Type 0
IteratorsGiveTheBytes =
    (e : Exporter) (k : ℕ) (it : Iterator) (more : ℕ) → slice_get e.iterators k ≡ Some it → it.subject ≡ subject.Own → it.exhausted ≡ false
    → nexts e k (length e.bytes - it.position + more) ≡ map (λ b. reply.Item (byte_item b)) (drop it.position e.bytes) ++ replicate more reply.Stop

-- A method, a search, and the hexadecimal digits of a view change nothing.
abbrev pub ReadingInPlaceChangesNothing : Type 0
ReadingInPlaceChangesNothing =
    (e : Exporter) (s : Subject) (v : Verb) (loans : List (ℕ × Loan)) → reads_in_place s v ≡ true → (estep e s v loans).0 ≡ e

-- A refused command changes nothing.
abbrev pub RefusedCommandsChangeNothing : Type 0
RefusedCommandsChangeNothing = (e : Exporter) (s : Subject) (v : Verb) (loans : List (ℕ × Loan)) (f : Fault) → (estep e s v loans).1 ≡ reply.Refused f → (estep e s v loans).0 ≡ e

-- A command that replies something fresh changes nothing. It replies a copy of the view or of the bytearray
-- that is its subject.
abbrev pub FreshRepliesAreCopies : Type 0
FreshRepliesAreCopies =
    (e : Exporter) (s : Subject) (v : Verb) (loans : List (ℕ × Loan)) (snap : Snap) → (estep e s v loans).1 ≡ reply.Fresh snap
    → ((estep e s v loans).0 ≡ e) × (IsCopyOf e s snap)

-- If a command shows its subject as a text, the text has no line feed.
abbrev pub ShownTextsAreOneLine : Type 0
ShownTextsAreOneLine =
    (e : Exporter) (s : Subject) (v : Verb) (loans : List (ℕ × Loan)) (text : List ℕ) → (estep e s v loans).1 ≡ reply.Shown text → is_one_line text ≡ true

-- Two ways to name handles are alike for a command if both know the same of its handles, and both lend the same
-- for those whose bytes the command reads.
pub record AreAlike (e : Exporter) (s : Subject) (v : Verb) (named others : ℕ → Option Loan) : Type 0 where
  pub known : are_named e named (handles_of v) ≡ are_named e others (handles_of v)
  pub lent : lents_by e named (handles_read s v) ≡ lents_by e others (handles_read s v)

-- A command depends on nothing else of what its handles name.
abbrev pub NamesAlikeDoTheSame : Type 0
NamesAlikeDoTheSame = (e : Exporter) (s : Subject) (v : Verb) (named others : ℕ → Option Loan) → AreAlike e s v named others → estep_by e s v named ≡ estep_by e s v others

-- Every item of an unreleased view is read completely, as the values of its format's fields.
abbrev pub ItemsAreRead : Type 0
ItemsAreRead =
    (e : Exporter) (k : ℕ) (layout : Layout) (i : ℕ) → IsSoundExporter e → live_layout e k ≡ Ok layout → i < length layout.starts
    → (format : Format) × (format_of layout.format ≡ Ok format) × (format.size ≡ layout.itemsize)
    × (item_by layout.format (bytes_at e.bytes layout.itemsize (slice_index layout.starts i)) ≡ item_of (values format (bytes_at e.bytes layout.itemsize (slice_index layout.starts i))))

-- A bytearray is added to itself: `iadd` gets a handle that is lent as the exporter itself.
pub record AddsItself (e : Exporter) (v : Verb) (loans : List (ℕ × Loan)) : Type 0 where
  pub byte_array : e.kind ≡ kind.ByteArray
  pub handle : ℕ
  pub added : v ≡ verb.IAdd (value.One (scalar.Handle handle))
  pub itself : loan_of loans handle ≡ Some loan.Own

-- What an edit replies, by what it asks for. If an earlier check refuses, that is the reply, whether a view is
-- unreleased or not. If the edit passes these checks and asks for another length, the reply is `BufferError`
-- while a view is unreleased. Otherwise the reply is `BufferError` only if a bytearray is added to itself.
pub record IsRefusedWhileExported (e : Exporter) (v : Verb) (loans : List (ℕ × Loan)) (asked : Result Bool Fault) (r : LocalReply) : Type 0 where
  pub earlier : (f : Fault) → asked ≡ Err f → r ≡ reply.Refused f
  pub refused : asked ≡ Ok true → has_exports e ≡ true → r ≡ reply.Refused fault.Buffer
  pub only : r ≡ reply.Refused fault.Buffer → ((asked ≡ Ok true) × (has_exports e ≡ true)) ⊎ AddsItself e v loans

-- This holds for every edit whose handles are known.
abbrev pub ResizingIsRefusedWhileExported : Type 0
ResizingIsRefusedWhileExported =
    (e : Exporter) (v : Verb) (loans : List (ℕ × Loan)) → is_edit v ≡ true → are_known e loans (handles_of v) ≡ true
    → IsRefusedWhileExported e v loans (asks e v (lent_for_each e loans (handles_read subject.Own v))) (estep e subject.Own v loans).1

-- A bytearray that is added to itself is refused with `BufferError`, whether a view is unreleased or not.
abbrev pub AddingItselfIsRefused : Type 0
AddingItselfIsRefused = (e : Exporter) (v : Verb) (loans : List (ℕ × Loan)) → AddsItself e v loans → estep e subject.Own v loans ≡ (e, reply.Refused fault.Buffer)

-- Only a bytearray can be added to, since the other kinds have no such command.
abbrev pub OnlyByteArraysAreAddedTo : Type 0
OnlyByteArraysAreAddedTo =
    (e : Exporter) (v : Value) (loans : List (ℕ × Loan)) → e.kind ≢ kind.ByteArray → estep e subject.Own (verb.IAdd v) loans ≡ (e, reply.Refused fault.UnknownName)

-- If no two items of any view share a byte, this is still so after every command.
abbrev pub CommandsKeepItemsApart : Type 0
CommandsKeepItemsApart = (e : Exporter) (s : Subject) (v : Verb) (loans : List (ℕ × Loan)) → IsSoundExporter e → IsSpaced e → IsSpaced (estep e s v loans).0

-- A reply that names a view or an iterator names one that the exporter has.
abbrev pub NamesItsOwn : Exporter → LocalReply → Type 0
NamesItsOwn e (reply.View k) = has_subject e (subject.View k) ≡ true
NamesItsOwn e (reply.Iter k) = has_subject e (subject.Iter k) ≡ true
NamesItsOwn e r = Unit {0}

-- This holds for the reply to every command, and the exporter after it.
abbrev pub RepliedNamesAreThere : Type 0
RepliedNamesAreThere = (e : Exporter) (s : Subject) (v : Verb) (loans : List (ℕ × Loan)) → NamesItsOwn (estep e s v loans).0 (estep e s v loans).1

-- A view or an iterator that an exporter has is still there after every command.
abbrev pub SubjectsStay : Type 0
SubjectsStay =
    (e : Exporter) (s : Subject) (v : Verb) (loans : List (ℕ × Loan)) (other : Subject) → IsSoundExporter e → has_subject e other ≡ true
    → has_subject (estep e s v loans).0 other ≡ true

-- No command is refused with `StructError`, and neither is a call that makes new bytes from options. Only a
-- view that a descriptor makes checks whether a text is a format, and no command makes one.
pub record StructErrorIsNeverReplied : Type 0 where
  pub commands : (e : Exporter) (s : Subject) (v : Verb) (loans : List (ℕ × Loan)) → (estep e s v loans).1 ≢ reply.Refused fault.Struct
  pub options : (pairs : List (ℕ × Snap)) (source encoding errors : Option Value) → bytes_of_options pairs source encoding errors ≢ Err fault.Struct

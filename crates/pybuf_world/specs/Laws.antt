-- Laws of worlds.
use Rattle.std.specs.Prelude.{◌≡◌, ◌≢◌, ◌==◌, ℕ, ◌<◌, ◌≤◌, true, false, List, [], ◌∷◌, ◌++◌, length, slice_get, Some, Ok, Err}
use Rattle.std.specs.List.{list_any}
use Rattle.pybuf_value.specs.declared.faults.Fault.{Fault}
use Rattle.pybuf_value.specs.declared.faults.Fault.TheVariants as fault
use Rattle.pybuf_command.specs.declared.options.ByteInnerNewOptions.{ByteInnerNewOptions}
use Rattle.pybuf_command.specs.declared.kinds.ExporterKind.{ExporterKind}
use Rattle.pybuf_command.specs.declared.kinds.Subject.{Subject}
use Rattle.pybuf_command.specs.declared.kinds.Subject.TheVariants as subject
use Rattle.pybuf_command.specs.declared.commands.Verb.{Verb}
use Rattle.pybuf_command.specs.Handles.{handles_of_options}
use Rattle.pybuf_desc.specs.Layouts.{Layout}
use Rattle.pybuf_desc.specs.Apart.{HasItemsApart}
use Rattle.pybuf_state.specs.Exporter.{Exporter, new_exporter, live_layout}
use Rattle.pybuf_state.specs.Fresh.{HoldsCopy}
use Rattle.pybuf_state.specs.Keeps.{LengthsStay, ReadOnlyBytesStay, IteratorsStay, is_one_line}
use Rattle.pybuf_world.specs.declared.named.Named.TheVariants as named
use Rattle.pybuf_command.specs.declared.worlds.Command.{Command}
use Rattle.pybuf_command.specs.declared.worlds.Command.TheVariants as command
use Rattle.pybuf_command.specs.declared.worlds.Reply.{Reply}
use Rattle.pybuf_command.specs.declared.worlds.Reply.TheVariants as reply
use Rattle.pybuf_world.specs.World.{World, empty_world, bytes_of_new, wstep, world_after_all, released_by, names_view}
use Rattle.pybuf_world.specs.Sound.{IsSoundWorld, StaysSound}

-- A refused command leaves the whole world as it was, and so uses up no handle.
abbrev pub RefusalsChangeNothing : Type 0
RefusalsChangeNothing = (w : World) (c : Command) (f : Fault) → (wstep w c).1 ≡ reply.Refused f → (wstep w c).0 ≡ w

-- No command is refused with `StructError`.
abbrev pub NoReplyIsAStructError : Type 0
NoReplyIsAStructError = (w : World) (c : Command) → (wstep w c).1 ≢ reply.Refused fault.Struct

-- After a command, a handle names what it named before.
abbrev pub HandlesStay : Type 0
HandlesStay = (w : World) (c : Command) (handle : ℕ) → handle < length w.handles → slice_get (wstep w c).0.handles handle ≡ slice_get w.handles handle

-- A view that is released twice by its handle is as if it were released once.
abbrev pub ReleasingByHandleTwiceIsOnce : Type 0
ReleasingByHandleTwiceIsOnce = (w once : World) (handle : ℕ) → released_by w handle ≡ Ok once → released_by once handle ≡ Ok once

-- Each exporter keeps its number, and `Stays` says how it stays.
abbrev pub EachExporterStays : (Exporter → Exporter → Type 0) → World → World → Type 0
EachExporterStays Stays old new =
    (i : ℕ) (e : Exporter) → slice_get old.exporters i ≡ Some e → (after : Exporter) × (slice_get new.exporters i ≡ Some after) × Stays e after

-- Under every command, the views of each exporter are only added or released, and each keeps the length that it
-- was made at. An exporter with an unreleased view keeps its length.
abbrev pub WorldLengthsStay : Type 0
WorldLengthsStay = (w : World) (c : Command) → IsSoundWorld w → EachExporterStays LengthsStay w (wstep w c).0

-- No command changes the bytes of an exporter that can only be read.
abbrev pub WorldReadOnlyBytesStay : Type 0
WorldReadOnlyBytesStay = (w : World) (c : Command) → IsSoundWorld w → EachExporterStays ReadOnlyBytesStay w (wstep w c).0

-- Each iterator keeps its number and what it goes over, and an exhausted one stays as it is.
abbrev pub KeepsIterators : Exporter → Exporter → Type 0
KeepsIterators old new = IteratorsStay old.iterators new.iterators

abbrev pub WorldIteratorsStay : Type 0
WorldIteratorsStay = (w : World) (c : Command) → IsSoundWorld w → EachExporterStays KeepsIterators w (wstep w c).0

-- If a command shows its subject as a text, the text has no line feed.
abbrev pub WorldShownTextsAreOneLine : Type 0
WorldShownTextsAreOneLine = (w : World) (c : Command) (text : List ℕ) → (wstep w c).1 ≡ reply.Shown text → is_one_line text ≡ true

-- One more exporter stands behind the others, and the handle names it. The others stay as they are, so a write
-- to the copy isn't seen in them, nor a write to them in the copy. The copy has the bytes of a subject of
-- another exporter. If that is a bytearray, the copy has no view. If it is a view, the copy has one view with
-- its items, in the same format and shape and without gaps.
pub record IsCopyMade (old new : World) (s : Subject) (exporter : ℕ) : Type 0 where
  pub number : ℕ
  pub copied : Exporter
  pub made : Exporter
  pub there : slice_get old.exporters number ≡ Some copied
  pub behind : new.exporters ≡ old.exporters ++ made ∷ []
  pub exporter_named : slice_get new.handles exporter ≡ Some (named.Exporter (length old.exporters))
  pub holds : HoldsCopy copied s made

-- The same for the copy of a view. The second handle names the one view of the copy.
pub record IsViewedCopyMade (old new : World) (exporter view : ℕ) : Type 0 where
  pub number : ℕ
  pub made : IsCopyMade old new (subject.View number) exporter
  pub view_named : slice_get new.handles view ≡ Some (named.View (length old.exporters) 0)

-- This holds whenever the reply is a pair of handles.
abbrev pub CopiesAreExportersOfTheirOwn : Type 0
CopiesAreExportersOfTheirOwn =
    (w : World) (c : Command) (exporter view : ℕ) → IsSoundWorld w → (wstep w c).1 ≡ reply.Pair exporter view → IsViewedCopyMade w (wstep w c).0 exporter view

-- If a command on a handle replies one handle and has made an exporter, that is the copy of a bytearray.
abbrev pub UnviewedCopiesAreExportersOfTheirOwn : Type 0
UnviewedCopiesAreExportersOfTheirOwn =
    (w : World) (handle : ℕ) (v : Verb) (exporter : ℕ) → IsSoundWorld w → (wstep w (command.Do handle v)).1 ≡ reply.Handle exporter
    → length w.exporters < length (wstep w (command.Do handle v)).0.exporters → IsCopyMade w (wstep w (command.Do handle v)).0 subject.Own exporter

-- One more exporter stands behind the others, which stay as they are. It has the kind that was asked for and no
-- view. Its bytes are those that the options gave before it was there. Its handle is the next one.
pub record IsNewMade (old : World) (k : ExporterKind) (options : ByteInnerNewOptions) (new : World) (r : Reply) : Type 0 where
  pub bytes : List ℕ
  pub read : bytes_of_new old options ≡ Ok bytes
  pub behind : new.exporters ≡ old.exporters ++ new_exporter k bytes ∷ []
  pub next : new.handles ≡ old.handles ++ named.Exporter (length old.exporters) ∷ []
  pub replied : r ≡ reply.Handle (length old.handles)

-- This holds whenever a new exporter isn't refused.
abbrev pub NewExportersStandBehind : Type 0
NewExportersStandBehind =
    (w : World) (k : ExporterKind) (options : ByteInnerNewOptions) → ((f : Fault) → (wstep w (command.New k options)).1 ≢ reply.Refused f)
    → IsNewMade w k options (wstep w (command.New k options)).0 (wstep w (command.New k options)).1

-- A handle among the options that was never given is refused before all else.
abbrev pub UnknownSourcesAreRefused : Type 0
UnknownSourcesAreRefused =
    (w : World) (k : ExporterKind) (options : ByteInnerNewOptions) (handle : ℕ) → list_any (λ (given : ℕ). given == handle) (handles_of_options options) ≡ true → length w.handles ≤ handle
    → wstep w (command.New k options) ≡ (w, reply.Refused fault.UnknownName)

-- Every run that begins with an empty world keeps the world sound, after each of its commands.
abbrev pub RunsStaySound : Type 0
RunsStaySound = (commands : List Command) → StaysSound empty_world commands

-- No two items of an unreleased view of any exporter share a byte.
abbrev pub HasViewsOfItemsApart : World → Type 0
HasViewsOfItemsApart w =
    (i k : ℕ) (e : Exporter) (layout : Layout) → slice_get w.exporters i ≡ Some e → live_layout e k ≡ Ok layout → HasItemsApart layout

-- This holds in every world that a run from the empty world reaches.
abbrev pub RunsKeepItemsApart : Type 0
RunsKeepItemsApart = (commands : List Command) → HasViewsOfItemsApart (world_after_all empty_world commands)

-- A release by a handle is refused exactly if the handle was never given or names no view, and only with
-- `UnknownName`.
pub record IsRefusedByName (w : World) (handle : ℕ) : Type 0 where
  pub refused : names_view w handle ≡ false → released_by w handle ≡ Err fault.UnknownName
  pub only : (f : Fault) → released_by w handle ≡ Err f → (f ≡ fault.UnknownName) × (names_view w handle ≡ false)

-- This holds for every handle of a sound world.
abbrev pub ReleasesAreRefusedByName : Type 0
ReleasesAreRefusedByName = (w : World) (handle : ℕ) → IsSoundWorld w → IsRefusedByName w handle

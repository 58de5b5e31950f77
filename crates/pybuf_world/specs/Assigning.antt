-- `set` of a view by a slice, as a command on a world: which items it copies, and what is there after it.
use Rattle.std.specs.Prelude.{◌≡◌, ℕ, ◌*◌, ◌<◌, List, [], length, set, slice_get, false, Option, Some, None, Ok}
use Rattle.pybuf_value.specs.declared.values.Scalar.TheVariants as scalar
use Rattle.pybuf_value.specs.declared.values.Value.{Value}
use Rattle.pybuf_value.specs.declared.values.Value.TheVariants as value
use Rattle.pybuf_value.specs.declared.values.PySlice.{PySlice}
use Rattle.pybuf_value.specs.declared.snaps.Snap.{Snap}
use Rattle.pybuf_index.specs.Parts.{SliceParts, saturated_parts_of}
use Rattle.pybuf_desc.specs.Layouts.{Layout}
use Rattle.pybuf_desc.specs.Items.{bytes_at}
use Rattle.pybuf_desc.specs.Slices.{slice_of}
use Rattle.pybuf_command.specs.declared.kinds.ExporterKind.TheVariants as kind
use Rattle.pybuf_command.specs.declared.kinds.Subject.{Subject}
use Rattle.pybuf_command.specs.declared.commands.Verb.{Verb}
use Rattle.pybuf_command.specs.declared.commands.Verb.TheVariants as verb
use Rattle.pybuf_command.specs.declared.worlds.Command.TheVariants as command
use Rattle.pybuf_command.specs.declared.worlds.Reply.TheVariants as reply
use Rattle.pybuf_state.specs.Exporter.{Exporter, new_exporter, live_layout}
use Rattle.pybuf_state.specs.Fits.{LoansFit}
use Rattle.pybuf_state.specs.Snaps.{snap_of_exporter}
use Rattle.pybuf_verbs_writes.specs.Laws.{AreOutside}
use Rattle.pybuf_exporter.specs.Assigning.{item_in, item_of_subject}
use Rattle.pybuf_world.specs.declared.named.Named.{Named}
use Rattle.pybuf_world.specs.declared.named.Named.TheVariants as named
use Rattle.pybuf_world.specs.World.{World, exporter_of, subject_of, snap_for, loans_of, wstep}
use Rattle.pybuf_world.specs.Sound.{IsSoundWorld}

-- ---- items, as the world is now

abbrev pub item_of_exporter : Option Exporter → Subject → ℕ → List ℕ
item_of_exporter (Some e) s j = item_of_subject e s j
item_of_exporter None s j = []

-- item j of the exporter or the view that a handle names
abbrev pub item_of_name : World → Option Named → ℕ → List ℕ
item_of_name w (Some n) j = item_of_exporter (slice_get w.exporters (exporter_of n)) (subject_of n) j
item_of_name w None j = []

-- item j of bytes that are given, or of what a handle names, in whichever exporter that is
abbrev pub item_in_world : World → Value → ℕ → List ℕ
item_in_world w (value.One (scalar.Bytes bytes)) j = bytes_at bytes 1 j
item_in_world w (value.One (scalar.Handle h)) j = item_of_name w (slice_get w.handles h) j
item_in_world w _ j = []

-- ---- sources, as the world is now

-- bytes that are given, or what a handle names, with the bytes that it has
abbrev pub source_in_world : World → Value → Option Snap
source_in_world w (value.One (scalar.Bytes bytes)) = Some (snap_of_exporter (new_exporter kind.Bytes bytes))
source_in_world w (value.One (scalar.Handle h)) = snap_for w h
source_in_world w _ = None

-- ---- the laws

-- What the others lend to an exporter of a sound world fits.
abbrev pub LoansOfWorldsFit : Type 0
LoansOfWorldsFit = (w : World) (i : ℕ) (v : Verb) → IsSoundWorld w → LoansFit (loans_of w i v)

-- The items of a view that a slice picks were set to those of a source. The source was there and was no
-- released view, and it has as many items of the same size. Item j of the target is afterwards what item j of
-- the source was before, whatever the strides of both are, and even if both lie in the same bytes. Every byte
-- of the exporter that no item of the target has stays, and so do its length, its kind, its views and its
-- iterators. Nothing else of the world changes.
pub record IsAssignedInWorld (old new : World) (number k : ℕ) (slice : PySlice) (v : Value) : Type 0 where
  pub before : Exporter
  pub there : slice_get old.exporters number ≡ Some before
  pub after : Exporter
  pub stands : new ≡ record old { exporters = set old.exporters number after }
  pub layout : Layout
  pub live : live_layout before k ≡ Ok layout
  pub parts : SliceParts
  pub given : saturated_parts_of slice ≡ Ok parts
  pub source : Snap
  pub named : source_in_world old v ≡ Some source
  pub unreleased : source.released ≡ false
  pub same_size : source.itemsize ≡ layout.itemsize
  pub as_many : length source.content ≡ layout.itemsize * length (slice_of layout parts).starts
  pub items : (j : ℕ) → j < length (slice_of layout parts).starts → item_in after.bytes (slice_of layout parts) j ≡ item_in_world old v j
  pub others : (place count : ℕ) → AreOutside layout.itemsize (slice_of layout parts).starts place count → bytes_at after.bytes count place ≡ bytes_at before.bytes count place
  pub as_long : length after.bytes ≡ length before.bytes
  pub kind : after.kind ≡ before.kind
  pub views : after.views ≡ before.views
  pub iterators : after.iterators ≡ before.iterators

-- This holds in a sound world whenever the command isn't refused.
abbrev pub WorldStepsAssignByValue : Type 0
WorldStepsAssignByValue =
    (w new : World) (handle number k : ℕ) (slice : PySlice) (v : Value) → IsSoundWorld w → slice_get w.handles handle ≡ Some (named.View number k)
    → wstep w (command.Do handle (verb.Set (value.Slice slice) v)) ≡ (new, reply.Ok) → IsAssignedInWorld w new number k slice v

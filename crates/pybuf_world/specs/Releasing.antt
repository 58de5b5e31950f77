-- Only its unreleased views keep an exporter of a world from an edit.
use Rattle.std.specs.Prelude.{◌≡◌, ◌↔◌, ℕ, suc, set, true, false, slice_get, Some}
use Rattle.pybuf_value.specs.declared.faults.Fault.TheVariants as fault
use Rattle.pybuf_value.specs.declared.values.Scalar.TheVariants as scalar
use Rattle.pybuf_value.specs.declared.values.Value.TheVariants as value
use Rattle.pybuf_command.specs.declared.commands.Verb.{Verb}
use Rattle.pybuf_command.specs.declared.commands.Verb.TheVariants as verb
use Rattle.pybuf_command.specs.declared.commands.PropertyName.TheVariants as property
use Rattle.pybuf_command.specs.declared.worlds.Command.TheVariants as command
use Rattle.pybuf_command.specs.declared.worlds.Reply.TheVariants as reply
use Rattle.pybuf_state.specs.Exporter.{Exporter, View, exports_of, released_at}
use Rattle.pybuf_state.specs.Resizing.{has_exports}
use Rattle.pybuf_verbs_reads.specs.Len.{count_item}
use Rattle.pybuf_verbs_edits.specs.Edits.{is_edit}
use Rattle.pybuf_exporter.specs.Releasing.{AreReleased}
use Rattle.pybuf_world.specs.declared.named.Named.TheVariants as named
use Rattle.pybuf_world.specs.World.{World, wstep}

-- A bytearray is added to itself, by a handle that names it.
abbrev pub AddsItselfByHandle : World → ℕ → Verb → Type 0
AddsItselfByHandle w number v = (handle : ℕ) × (v ≡ verb.IAdd (value.One (scalar.Handle handle))) × (slice_get w.handles handle ≡ Some (named.Exporter number))

-- If every view of an exporter is released, no edit of it is refused with `BufferError`, except one that adds a
-- bytearray to itself.
abbrev pub EditsAreFree : Type 0
EditsAreFree =
    (w : World) (handle number : ℕ) (e : Exporter) (v : Verb) → slice_get w.handles handle ≡ Some (named.Exporter number) → slice_get w.exporters number ≡ Some e → AreReleased e
    → is_edit v ≡ true → (wstep w (command.Do handle v)).1 ≡ reply.Refused fault.Buffer → AddsItselfByHandle w number v

-- `release` of a view replies `ok`, the first time and each further time. Then the view is released, and
-- nothing else changes. If it was unreleased, its exporter has one unreleased view less.
pub record IsReleasedByHandle (w : World) (handle number k : ℕ) (v : View) (e : Exporter) : Type 0 where
  pub stepped : wstep w (command.Do handle verb.Release) ≡ (record w { exporters = set w.exporters number (released_at e k v) }, reply.Ok)
  pub less : v.released ≡ false → exports_of e ≡ suc (exports_of (released_at e k v))
  pub again : v.released ≡ true → released_at e k v ≡ e

-- This holds for every handle of a view.
abbrev pub ReleasesAreCounted : Type 0
ReleasesAreCounted =
    (w : World) (handle number k : ℕ) (v : View) (e : Exporter) → slice_get w.handles handle ≡ Some (named.View number k) → slice_get w.exporters number ≡ Some e → slice_get e.views k ≡ Some v
    → IsReleasedByHandle w handle number k v e

-- The property `exports` of an exporter is the number of its unreleased views. That number is 0 exactly if
-- every view of it is released.
pub record CountsUnreleased (w : World) (handle : ℕ) (e : Exporter) : Type 0 where
  pub replied : wstep w (command.Do handle (verb.Property property.Exports)) ≡ (w, reply.Item (count_item (exports_of e)))
  pub none : (has_exports e ≡ false) ↔ AreReleased e

-- This holds for every handle of an exporter.
abbrev pub ExportsAreCounted : Type 0
ExportsAreCounted =
    (w : World) (handle number : ℕ) (e : Exporter) → slice_get w.handles handle ≡ Some (named.Exporter number) → slice_get w.exporters number ≡ Some e → CountsUnreleased w handle e

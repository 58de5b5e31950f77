-- What holds of every world.
use Rattle.std.specs.Prelude.{◌≡◌, ℕ, ◌<◌, ◌++◌, List, take, length, true, Some, slice_get}
use Rattle.std.specs.List.{All}
use Rattle.pybuf_state.specs.Exporter.{Exporter, has_subject}
use Rattle.pybuf_state.specs.Sound.{IsSoundExporter}
use Rattle.pybuf_state.specs.Spaced.{IsSpaced}
use Rattle.pybuf_world.specs.declared.named.Named.{Named}
use Rattle.pybuf_world.specs.declared.named.Named.TheVariants as named
use Rattle.pybuf_command.specs.declared.worlds.Command.{Command}
use Rattle.pybuf_command.specs.declared.worlds.Reply.{Reply}
use Rattle.pybuf_world.specs.World.{World, exporter_of, subject_of, handle_of, world_after_all, replies_of}

-- A name is that of an exporter that is there, or of a view or an iterator that such an exporter has.
pub record IsGiven (exporters : List Exporter) (name : Named) : Type 0 where
  pub exporter : Exporter
  pub there : slice_get exporters (exporter_of name) ≡ Some exporter
  pub has : has_subject exporter (subject_of name) ≡ true

-- What holds of every world. Each exporter is sound, and no two items of one of its views share a byte. Each
-- handle names an exporter that is there, or a view or an iterator that one of them has. Each exporter is named
-- by its handle.
pub record IsSoundWorld (w : World) : Type 0 where
  pub exporters_are_sound : All IsSoundExporter w.exporters
  pub items_lie_apart : All IsSpaced w.exporters
  pub names_are_given : All (IsGiven w.exporters) w.handles
  pub exporters_are_named : (i : ℕ) → i < length w.exporters → slice_get w.handles (handle_of w i) ≡ Some (named.Exporter i)

-- The world is sound after each command of the list.
abbrev pub StaysSound : World → List Command → Type 0
StaysSound w commands = (k : ℕ) → IsSoundWorld (world_after_all w (take k commands))

-- The run stopped before its end: the world and the replies are those after the first k commands.
abbrev pub StopsAt : World → List Command → World → List Reply → List Reply → Type 0
StopsAt old commands new replies_before replies =
    (k : ℕ) × (k < length commands) × (new ≡ world_after_all old (take k commands)) × (replies ≡ replies_before ++ replies_of old (take k commands))

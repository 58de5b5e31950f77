-- An exporter as it is stored. Beside its bytes, it has free room before them.
use Rattle.std.specs.Prelude.{ℕ, List}
use Rattle.pybuf_command.specs.declared.kinds.ExporterKind.{ExporterKind}
use Rattle.pybuf_state.specs.declared.parts.Parts.{Parts}
use Rattle.pybuf_state.specs.Answers.{exporter_of}
use Rattle.pybuf_state.specs.Exporter.{Exporter, new_exporter}

-- A stored exporter. `room` is the number of free bytes before its bytes. No command asks for the room, and no
-- reply tells it.
pub record StoredExporter : Type 0 where
  pub exporter : Exporter
  pub room : ℕ

abbrev pub stored_of : Parts → StoredExporter
stored_of p = record { exporter = exporter_of p; room = p.bytes.room }

-- a new exporter of these bytes, without room, views or iterators
abbrev pub new_stored : ExporterKind → List ℕ → StoredExporter
new_stored kind bytes = record { exporter = new_exporter kind bytes; room = 0 }

-- the same exporter without room
abbrev pub without_room : StoredExporter → StoredExporter
without_room s = record s { room = 0 }

-- What an exporter is after its bytes were lent to be written.
use Rattle.std.specs.Prelude.{ℕ, List, ◌++◌, length, take, drop, slice_index, Result}
use Rattle.std.specs.Borrow.{Lends, LendsIfOk, MutBor, Fml, Array, u8}
use Rattle.pybuf_value.specs.declared.faults.Fault.{Fault}
use Rattle.pybuf_state.specs.Bytes.{Bytes, bytes_row}
use Rattle.pybuf_state.specs.Live.{layout_of}
use Rattle.pybuf_state.specs.Exporter.{Exporter}
use Rattle.pybuf_exporter.specs.Stored.{StoredExporter}
use Rattle.pybuf_exporter.specs.contracts.exporter.ExporterState.{the_row}

-- the exporter with these bytes written over its own from the first on, as far as it has bytes
abbrev pub overwritten_exporter : Exporter → List ℕ → Exporter
overwritten_exporter e bytes = record e { bytes = take (length e.bytes) (bytes ++ drop (length bytes) e.bytes) }

-- the same of a stored exporter, whose room stays
abbrev pub overwritten : StoredExporter → List ℕ → StoredExporter
overwritten s bytes = record s { exporter = overwritten_exporter s.exporter bytes }

-- When the loan ends, the exporter has the bytes that the borrower left. Nothing else of it changes.
abbrev pub LendsBytes : MutBor StoredExporter → MutBor (List ℕ) → Fml
LendsBytes s r = Lends the_row (Array u8 0) s r (overwritten s.now)

-- the exporter with other bytes, of which there may be more or fewer
abbrev pub resized_exporter : Exporter → Bytes → Exporter
resized_exporter e bytes = record e { bytes = bytes.items }

-- the same of a stored exporter, which then has no room
abbrev pub resized_flat : StoredExporter → Bytes → StoredExporter
resized_flat s bytes = record { exporter = resized_exporter s.exporter bytes; room = 0 }

-- The bytes may be lent so that the borrower can change their number. When such a loan ends, the exporter has
-- the bytes that the borrower left.
abbrev pub LendsAll : MutBor StoredExporter → Result (MutBor Bytes) Fault → Fml
LendsAll s r = LendsIfOk the_row bytes_row s r (resized_flat s.now) s.now

-- the exporter with these bytes written over its own from a place on, as far as it has bytes
abbrev pub written_from : Exporter → ℕ → List ℕ → Exporter
written_from e place bytes = overwritten_exporter e (take place e.bytes ++ (bytes ++ drop (length bytes) (drop place e.bytes)))

-- the same of a stored exporter, from the first item of a view on, and the room stays
abbrev pub run_written : StoredExporter → ℕ → List ℕ → StoredExporter
run_written s k bytes = record s { exporter = written_from s.exporter (slice_index (layout_of s.exporter k).starts 0) bytes }

-- When the loan of a view's bytes ends, the exporter has the bytes that the borrower left, from the view's
-- first item on. Nothing else of it changes.
abbrev pub LendsRunOf : MutBor StoredExporter → ℕ → MutBor (List ℕ) → Fml
LendsRunOf s k r = Lends the_row (Array u8 0) s r (run_written s.now k)

-- What a vector is after its exporter was lent, or its bytes were taken.
use Rattle.std.specs.Prelude.{[]}
use Rattle.std.specs.Borrow.{Lends, MutBor, Fml}
use Rattle.pybuf_state.specs.Exporter.{Exporter}
use Rattle.pybuf_exporter.specs.Stored.{StoredExporter}
use Rattle.pybuf_exporter.specs.contracts.exporter.ExporterState as exporter
use Rattle.pybuf_memoryobject.specs.contracts.vec_buffer.VecBuffer as vector

-- When the loan ends, the vector has the exporter that the borrower left.
abbrev pub LendsStateOfVector : MutBor Exporter → MutBor StoredExporter → Fml
LendsStateOfVector b r = Lends vector.the_row exporter.the_row b r (λ s. s.exporter)

-- the exporter without bytes
abbrev pub emptied : Exporter → Exporter
emptied e = record e { bytes = [] }

-- What an exporter is after a buffer lent its bytes, or refused to.
use Rattle.std.specs.Prelude.{ℕ, List, Option}
use Rattle.std.specs.Borrow.{LendsIf, MutBor, Fml, Array, u8}
use Rattle.pybuf_exporter.specs.Stored.{StoredExporter}
use Rattle.pybuf_exporter.specs.Lending.{run_written}
use Rattle.pybuf_exporter.specs.contracts.exporter.ExporterState as exporter

-- If the bytes of a view were lent, then when the loan ends the exporter has the bytes that the borrower left,
-- from the view's first item on, and nothing else of it changes. Otherwise the exporter stays as it was.
abbrev pub LendsRunIf : MutBor StoredExporter → ℕ → Option (MutBor (List ℕ)) → Fml
LendsRunIf s k r = LendsIf exporter.the_row (Array u8 0) s r (run_written s.now k) s.now

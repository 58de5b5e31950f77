-- What bytes and a bytearray are after their exporter or their bytes were lent.
use Rattle.std.specs.Prelude.{ℕ, List, Option, Result}
use Rattle.std.specs.Borrow.{Lends, LendsIf, LendsIfOk, MutBor, Fml, Array, u8}
use Rattle.pybuf_value.specs.declared.faults.Fault.{Fault}
use Rattle.pybuf_state.specs.Exporter.{Exporter}
use Rattle.pybuf_state.specs.Bytes.{Bytes, bytes_row}
use Rattle.pybuf_exporter.specs.Stored.{StoredExporter}
use Rattle.pybuf_exporter.specs.Lending.{overwritten_exporter, resized_exporter}
use Rattle.pybuf_exporter.specs.contracts.exporter.ExporterState as exporter
use Rattle.pybuf_object.specs.contracts.bytes.PyBytes as bytes
use Rattle.pybuf_object.specs.contracts.byte_array.PyByteArray as byte_array

-- ---- the exporter: when its loan ends, the owner has the exporter that the borrower left

abbrev pub LendsStateOfBytes : MutBor Exporter → MutBor StoredExporter → Fml
LendsStateOfBytes b r = Lends bytes.the_row exporter.the_row b r (λ s. s.exporter)

abbrev pub LendsStateOfByteArray : MutBor Exporter → MutBor StoredExporter → Fml
LendsStateOfByteArray b r = Lends byte_array.the_row exporter.the_row b r (λ s. s.exporter)

-- ---- the bytes of a bytearray

-- When the loan ends, the bytearray has the bytes that the borrower left, as many as before. Nothing else of it
-- changes.
abbrev pub LendsBytesOfByteArray : MutBor Exporter → MutBor (List ℕ) → Fml
LendsBytesOfByteArray b r = Lends byte_array.the_row (Array u8 0) b r (overwritten_exporter b.now)

-- The same if the borrower may change the number of bytes. If the bytes aren't lent, the bytearray stays.
abbrev pub LendsAllIfOk : MutBor Exporter → Result (MutBor Bytes) Fault → Fml
LendsAllIfOk b r = LendsIfOk byte_array.the_row bytes_row b r (resized_exporter b.now) b.now

abbrev pub LendsAllIfSome : MutBor Exporter → Option (MutBor Bytes) → Fml
LendsAllIfSome b r = LendsIf byte_array.the_row bytes_row b r (resized_exporter b.now) b.now

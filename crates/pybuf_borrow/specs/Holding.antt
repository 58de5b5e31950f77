-- What an exporter is after a borrow held it, and what a borrow is after its bytes were lent.
use Rattle.std.specs.Prelude.{◌≡◌, ℕ, List, [], Result}
use Rattle.std.specs.Borrow.{RestsIfErr, Lends, MutBor, Fml, Array, u8}
use mir.Syntax.{named}
use Rattle.pybuf_value.specs.declared.faults.Fault.{Fault}
use Rattle.pybuf_exporter.specs.Stored.{StoredExporter}
use Rattle.pybuf_exporter.specs.contracts.exporter.ExporterState as exporter
use Rattle.pybuf_borrow.specs.Writable.{stored_through}
use Rattle.pybuf_borrow.specs.declared.memory.ArgMemoryBuffer.{ArgMemoryBuffer}
use Rattle.pybuf_borrow.specs.contracts.memory.ArgMemoryBuffer as memory

-- If the borrow is refused, the exporter stays. Otherwise it ends as the borrow leaves it.
abbrev pub StaysIfRefused : MutBor StoredExporter → Result ArgMemoryBuffer Fault → Fml
StaysIfRefused s r = RestsIfErr exporter.the_row s (λ borrow. borrow.state.ghost_name) r (λ last. last ≡ s.now)

-- the borrow after other bytes were written over those that it lends
abbrev pub after_writes : ArgMemoryBuffer → List ℕ → ArgMemoryBuffer
after_writes b bytes = record b { state = record b.state { now = stored_through b.state.now b.subject bytes }; writable = b.writable }

-- When the loan ends, the borrow has the bytes that the borrower left.
abbrev pub LendsWritable : MutBor ArgMemoryBuffer → MutBor (List ℕ) → Fml
LendsWritable b r = Lends (memory.the_row (record { mir = named 1; lft = [] })) (Array u8 0) b r (after_writes b.now)

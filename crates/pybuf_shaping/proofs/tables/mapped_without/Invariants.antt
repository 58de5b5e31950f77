use Rattle.std.proofs.Common.{◌≡◌, take}
use Rattle.pybuf_shaping.specs.Tables.{translated}
use Rattle.pybuf_shaping.proofs.tables.mapped_without.Given as goal

abbrev pub invariant-loop-byte : goal.invariant-loop-byte
invariant-loop-byte l = l.list.items ≡ translated l.table l.dropped (take l.byte-index l.bytes)

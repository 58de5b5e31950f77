use Rattle.std.proofs.Common.{◌≡◌, ◌++◌, map, slice_index, take, drop}
use Rattle.pybuf_shaping.proofs.tables.map_in_place.Given as goal

abbrev pub invariant-loop-byte : goal.invariant-loop-byte
invariant-loop-byte l = l.bytes ≡ map (slice_index l.table) (take l.byte-index l.fn.bytes) ++ drop l.byte-index l.fn.bytes

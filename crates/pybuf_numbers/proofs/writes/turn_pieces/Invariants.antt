use Rattle.std.proofs.Common.{◌≡◌, ◌*◌, ◌++◌, drop}
use Rattle.std.specs.Prelude.{reverse}
use Rattle.std.specs.List.{flat_map}
use Rattle.std.specs.Simd.{first_chunks}
use Rattle.pybuf_numbers.proofs.writes.turn_pieces.Given as goal

abbrev pub invariant-loop-k : goal.invariant-loop-k
invariant-loop-k g l = l.bytes ≡ flat_map reverse (first_chunks g.row.SIZE l.k l.fn.bytes) ++ drop (g.row.SIZE * l.k) l.fn.bytes

use Rattle.std.proofs.Common.{◌≡◌, length}
use Rattle.pybuf_byte_slices.specs.Closing.{closed_runs}
use Rattle.pybuf_byte_slices.proofs.close.close_sized.Given as goal

abbrev pub invariant-loop-k : goal.invariant-loop-k
invariant-loop-k g l = record {
  runs : l.bytes ≡ closed_runs l.fn.bytes l.low g.row.SIZE l.k;
  long : length l.bytes ≡ length l.fn.bytes;
}

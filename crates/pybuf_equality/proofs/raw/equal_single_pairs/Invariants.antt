use Rattle.std.proofs.Common.{◌≡◌, length}
use Rattle.pybuf_equality.specs.Walks.{ArePaired, same_ranges}
use Rattle.pybuf_equality.proofs.raw.equal_single_pairs.Given as goal

abbrev pub invariant-loop-range : goal.invariant-loop-range
invariant-loop-range l = record {
  compared : same_ranges l.bytes l.other l.pairs ≡ same_ranges l.bytes l.other l.fn.pairs;
  paired : ArePaired (length l.bytes) (length l.other) l.pairs;
}

abbrev pub decreases-loop-range : goal.decreases-loop-range
decreases-loop-range l = length l.pairs

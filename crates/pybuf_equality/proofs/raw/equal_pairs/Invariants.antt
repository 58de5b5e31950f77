use Rattle.std.proofs.Common.{◌≡◌, length}
use Rattle.pybuf_equality.specs.Walks.{ArePaired, AreAsLong, same_ranges}
use Rattle.pybuf_equality.proofs.raw.equal_pairs.Given as goal

abbrev pub invariant-loop-line : goal.invariant-loop-line
invariant-loop-line l = record {
  compared : same_ranges l.bytes l.other l.pairs ≡ same_ranges l.bytes l.other l.fn.pairs;
  paired : ArePaired (length l.bytes) (length l.other) l.pairs;
  as_long : AreAsLong l.pairs;
}

abbrev pub decreases-loop-line : goal.decreases-loop-line
decreases-loop-line l = length l.pairs

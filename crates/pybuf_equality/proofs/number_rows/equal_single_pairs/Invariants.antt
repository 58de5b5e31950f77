use Rattle.std.proofs.Common.{◌≡◌, length}
use Rattle.pybuf_equality.specs.Walks.{ArePaired, HaveSizes, same_numbers_of}
use Rattle.pybuf_equality.proofs.number_rows.equal_single_pairs.Given as goal

abbrev pub invariant-loop-range : goal.invariant-loop-range
invariant-loop-range l = record {
  compared : same_numbers_of l.signed l.other_signed l.bytes l.other l.pairs ≡ same_numbers_of l.signed l.other_signed l.bytes l.other l.fn.pairs;
  paired : ArePaired (length l.bytes) (length l.other) l.pairs;
  sizes : HaveSizes l.size l.other_size l.pairs;
}

abbrev pub decreases-loop-range : goal.decreases-loop-range
decreases-loop-range l = length l.pairs

use Rattle.std.proofs.Common.{length, sym, ◌∙◌}
use Rattle.pybuf_equality.specs.Walks.{IsPart, same_bytes_in}
use Rattle.pybuf_equality.proofs.Bools.{tested_first}
use Rattle.pybuf_equality.proofs.Walked.{first_pair, other_pairs}
use Rattle.pybuf_equality.proofs.raw.equal_single_pairs.Goals as goal

pub equal_ranges-requires-clause-part : goal.equal_ranges-requires-clause-part
equal_ranges-requires-clause-part c =
    (first_pair (λ pair. IsPart (length c.args.bytes.now) pair.0 × IsPart (length c.args.other.now) pair.1) (c.in-Some.range, c.in-Some.other_range) c.loop-range.pairs c.next.new.self c.in-Some.ensures.steps c.loop-range.invariant.paired).0

pub equal_ranges-requires-clause-other_part : goal.equal_ranges-requires-clause-other_part
equal_ranges-requires-clause-other_part c =
    (first_pair (λ pair. IsPart (length c.args.bytes.now) pair.0 × IsPart (length c.args.other.now) pair.1) (c.in-Some.range, c.in-Some.other_range) c.loop-range.pairs c.next.new.self c.in-Some.ensures.steps c.loop-range.invariant.paired).1

pub loop-range-preserved : goal.loop-range-preserved
loop-range-preserved c = record {
  compared = tested_first (same_bytes_in c.args.bytes.now c.args.other.now) (c.in-Some.range, c.in-Some.other_range) c.loop-range.pairs c.next.new.self _ c.in-Some.ensures.steps (sym c.equal_ranges.ensures ∙ c.if-not-equal_ranges.false) c.loop-range.invariant.compared;
  paired = other_pairs (λ pair. IsPart (length c.args.bytes.now) pair.0 × IsPart (length c.args.other.now) pair.1) (c.in-Some.range, c.in-Some.other_range) c.loop-range.pairs c.next.new.self c.in-Some.ensures.steps c.loop-range.invariant.paired;
}

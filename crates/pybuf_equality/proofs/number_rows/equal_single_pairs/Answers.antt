use Rattle.std.proofs.Common.{◌≡◌, ◌-◌, length, sym, ◌∙◌, subst}
use Rattle.std.specs.Prelude.{IsTrue}
use Rattle.pybuf_struct.specs.Digits.{is_width}
use Rattle.pybuf_equality.specs.Walks.{IsPart, same_numbers_in}
use Rattle.pybuf_equality.proofs.Bools.{tested_first}
use Rattle.pybuf_equality.proofs.Walked.{first_pair, other_pairs}
use Rattle.pybuf_equality.proofs.number_rows.equal_single_pairs.Goals as goal

pub equal_ranges-requires : goal.equal_ranges-requires
equal_ranges-requires c =
    let part = first_pair (λ pair. IsPart (length c.args.bytes.now) pair.0 × IsPart (length c.args.other.now) pair.1) (c.in-Some.range, c.in-Some.other_range) c.loop-range.pairs c.next.new.self c.in-Some.ensures.steps c.loop-range.invariant.paired in
    let sizes = first_pair (λ pair. (pair.0.end - pair.0.start ≡ c.args.size) × (pair.1.end - pair.1.start ≡ c.args.other_size)) (c.in-Some.range, c.in-Some.other_range) c.loop-range.pairs c.next.new.self c.in-Some.ensures.steps c.loop-range.invariant.sizes in record {
      width = subst (λ n. IsTrue (is_width n)) (sym sizes.0) c.requires.width;
      other_width = subst (λ n. IsTrue (is_width n)) (sym sizes.1) c.requires.other_width;
      part = part.0;
      other_part = part.1;
    }

pub loop-range-preserved : goal.loop-range-preserved
loop-range-preserved c = record {
  compared = tested_first (same_numbers_in c.args.signed c.args.other_signed c.args.bytes.now c.args.other.now) (c.in-Some.range, c.in-Some.other_range) c.loop-range.pairs c.next.new.self _ c.in-Some.ensures.steps (sym c.equal_ranges.ensures ∙ c.if-not-equal_ranges.false) c.loop-range.invariant.compared;
  paired = other_pairs (λ pair. IsPart (length c.args.bytes.now) pair.0 × IsPart (length c.args.other.now) pair.1) (c.in-Some.range, c.in-Some.other_range) c.loop-range.pairs c.next.new.self c.in-Some.ensures.steps c.loop-range.invariant.paired;
  sizes = other_pairs (λ pair. (pair.0.end - pair.0.start ≡ c.args.size) × (pair.1.end - pair.1.start ≡ c.args.other_size)) (c.in-Some.range, c.in-Some.other_range) c.loop-range.pairs c.next.new.self c.in-Some.ensures.steps c.loop-range.invariant.sizes;
}

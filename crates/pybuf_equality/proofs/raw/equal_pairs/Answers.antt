use Rattle.std.proofs.Common.{◌≡◌, ◌-◌, length, sym, ◌∙◌}
use Rattle.pybuf_equality.specs.Walks.{IsPart, same_bytes_in}
use Rattle.pybuf_equality.proofs.Rows.{row_first, rows_after, row_passed, row_failed, fewer_pairs}
use Rattle.pybuf_equality.proofs.raw.equal_pairs.Goals as goal

pub equal_lines-requires : goal.equal_lines-requires
equal_lines-requires c = record {
  line = c.in-Some.ensures.first_line;
  other_line = c.in-Some.ensures.second_line;
  as_many = c.in-Some.ensures.as_many;
  paired = row_first (λ pair. IsPart (length c.args.bytes.now) pair.0 × IsPart (length c.args.other.now) pair.1) c.in-Some.line c.in-Some.other_line c.loop-line.pairs c.next_lines.new.self c.in-Some.ensures.pairs c.loop-line.invariant.paired;
  as_long = row_first (λ pair. pair.0.end - pair.0.start ≡ pair.1.end - pair.1.start) c.in-Some.line c.in-Some.other_line c.loop-line.pairs c.next_lines.new.self c.in-Some.ensures.pairs c.loop-line.invariant.as_long;
}

pub returns-then-not-equal_lines : goal.returns-then-not-equal_lines
returns-then-not-equal_lines c =
    row_failed (same_bytes_in c.args.bytes.now c.args.other.now) c.in-Some.line c.in-Some.other_line c.loop-line.pairs c.next_lines.new.self _ c.in-Some.ensures.pairs (sym c.equal_lines.ensures ∙ c.if-not-equal_lines.true) c.loop-line.invariant.compared

pub loop-line-preserved : goal.loop-line-preserved
loop-line-preserved c = record {
  compared = row_passed (same_bytes_in c.args.bytes.now c.args.other.now) c.in-Some.line c.in-Some.other_line c.loop-line.pairs c.next_lines.new.self _ c.in-Some.ensures.pairs (sym c.equal_lines.ensures ∙ c.if-not-equal_lines.false) c.loop-line.invariant.compared;
  paired = rows_after (λ pair. IsPart (length c.args.bytes.now) pair.0 × IsPart (length c.args.other.now) pair.1) c.in-Some.line c.in-Some.other_line c.loop-line.pairs c.next_lines.new.self c.in-Some.ensures.pairs c.loop-line.invariant.paired;
  as_long = rows_after (λ pair. pair.0.end - pair.0.start ≡ pair.1.end - pair.1.start) c.in-Some.line c.in-Some.other_line c.loop-line.pairs c.next_lines.new.self c.in-Some.ensures.pairs c.loop-line.invariant.as_long;
}

pub loop-line-smaller : goal.loop-line-smaller
loop-line-smaller c = fewer_pairs c.in-Some.line c.in-Some.other_line c.loop-line.pairs c.next_lines.new.self c.in-Some.ensures.first_line c.in-Some.ensures.as_many c.in-Some.ensures.pairs

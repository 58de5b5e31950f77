use Rattle.std.proofs.Common.{◌≡◌, ◌-◌, length, sym, ◌∙◌, subst}
use Rattle.std.specs.Prelude.{IsTrue}
use Rattle.pybuf_struct.specs.Digits.{is_width}
use Rattle.pybuf_equality.specs.Walks.{IsPart, same_numbers_in}
use Rattle.pybuf_equality.proofs.Rows.{row_first, rows_after, row_passed, row_failed, fewer_pairs, line_widths}
use Rattle.pybuf_equality.proofs.number_rows.equal_pairs.Goals as goal

pub equal_lines-requires : goal.equal_lines-requires
equal_lines-requires c =
    let sizes = row_first (λ pair. (pair.0.end - pair.0.start ≡ c.args.size) × (pair.1.end - pair.1.start ≡ c.args.other_size)) c.in-Some.line c.in-Some.other_line c.loop-line.pairs c.next_lines.new.self c.in-Some.ensures.pairs c.loop-line.invariant.sizes in
    let widths = line_widths c.in-Some.line c.in-Some.other_line c.args.size c.args.other_size c.in-Some.ensures.first_line c.in-Some.ensures.as_many sizes in record {
      line = c.in-Some.ensures.first_line;
      other_line = c.in-Some.ensures.second_line;
      as_many = c.in-Some.ensures.as_many;
      width = subst (λ n. IsTrue (is_width n)) (sym widths.0) c.requires.width;
      other_width = subst (λ n. IsTrue (is_width n)) (sym widths.1) c.requires.other_width;
      paired = row_first (λ pair. IsPart (length c.args.bytes.now) pair.0 × IsPart (length c.args.other.now) pair.1) c.in-Some.line c.in-Some.other_line c.loop-line.pairs c.next_lines.new.self c.in-Some.ensures.pairs c.loop-line.invariant.paired;
    }

pub returns-then-not-equal_lines : goal.returns-then-not-equal_lines
returns-then-not-equal_lines c =
    row_failed (same_numbers_in c.args.signed c.args.other_signed c.args.bytes.now c.args.other.now) c.in-Some.line c.in-Some.other_line c.loop-line.pairs c.next_lines.new.self _ c.in-Some.ensures.pairs (sym c.equal_lines.ensures ∙ c.if-not-equal_lines.true) c.loop-line.invariant.compared

pub loop-line-preserved : goal.loop-line-preserved
loop-line-preserved c = record {
  compared = row_passed (same_numbers_in c.args.signed c.args.other_signed c.args.bytes.now c.args.other.now) c.in-Some.line c.in-Some.other_line c.loop-line.pairs c.next_lines.new.self _ c.in-Some.ensures.pairs (sym c.equal_lines.ensures ∙ c.if-not-equal_lines.false) c.loop-line.invariant.compared;
  paired = rows_after (λ pair. IsPart (length c.args.bytes.now) pair.0 × IsPart (length c.args.other.now) pair.1) c.in-Some.line c.in-Some.other_line c.loop-line.pairs c.next_lines.new.self c.in-Some.ensures.pairs c.loop-line.invariant.paired;
  sizes = rows_after (λ pair. (pair.0.end - pair.0.start ≡ c.args.size) × (pair.1.end - pair.1.start ≡ c.args.other_size)) c.in-Some.line c.in-Some.other_line c.loop-line.pairs c.next_lines.new.self c.in-Some.ensures.pairs c.loop-line.invariant.sizes;
}

pub loop-line-smaller : goal.loop-line-smaller
loop-line-smaller c = fewer_pairs c.in-Some.line c.in-Some.other_line c.loop-line.pairs c.next_lines.new.self c.in-Some.ensures.first_line c.in-Some.ensures.as_many c.in-Some.ensures.pairs

use Rattle.pybuf_desc.specs.Facts.{first_inside}
use Rattle.pybuf_desc.specs.SegmentLines.{ranges_of_line}
use Rattle.pybuf_verbs_writes.proofs.Pairs.{firsts, seconds}
use Rattle.pybuf_verbs_writes.proofs.LineCopies.{firsts_split, seconds_split, as_wide, pairs_laid, fewer_pairs}
use Rattle.pybuf_verbs_writes.proofs.laid.lay_pairs.Goals as goal

pub copy_between-requires : goal.copy_between-requires
copy_between-requires c =
    let kept = c.loop-line.invariant in
    let same = c.in-Some.ensures.pairs in
    let many = c.in-Some.ensures.as_many in record {
      line = c.in-Some.ensures.first_line;
      lender = c.in-Some.ensures.second_line;
      as_many = many;
      as_wide = as_wide c.in-Some.line c.in-Some.lender c.loop-line.pairs c.next_lines.new.self c.in-Some.ensures.first_line c.in-Some.ensures.second_line same kept.alike;
      inside = first_inside c.loop-line.bytes (ranges_of_line c.in-Some.line) (firsts c.loop-line.pairs) (firsts c.next_lines.new.self) (firsts_split c.in-Some.line c.in-Some.lender c.loop-line.pairs c.next_lines.new.self many same) kept.inside;
      source_inside = first_inside c.args.source.now (ranges_of_line c.in-Some.lender) (seconds c.loop-line.pairs) (seconds c.next_lines.new.self) (seconds_split c.in-Some.line c.in-Some.lender c.loop-line.pairs c.next_lines.new.self many same) kept.source_inside;
    }

pub loop-line-preserved : goal.loop-line-preserved
loop-line-preserved c =
    let kept = c.loop-line.invariant in
    let next = pairs_laid c.loop-line.bytes c.copy_between.new.bytes c.args.source.now _ c.in-Some.line c.in-Some.lender c.loop-line.pairs c.next_lines.new.self c.in-Some.ensures.as_many c.in-Some.ensures.pairs
    c.copy_between.ensures.copied c.copy_between.ensures.long c.copy_between.ensures.whole kept.inside kept.source_inside kept.alike kept.laid in
    record { laid = next.laid; inside = next.inside; source_inside = next.source_inside; alike = next.alike }

pub loop-line-smaller : goal.loop-line-smaller
loop-line-smaller c = fewer_pairs c.in-Some.line c.in-Some.lender c.loop-line.pairs c.next_lines.new.self c.in-Some.ensures.first_line c.in-Some.ensures.as_many c.in-Some.ensures.pairs

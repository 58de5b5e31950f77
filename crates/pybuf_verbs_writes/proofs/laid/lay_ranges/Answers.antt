use Rattle.std.proofs.Common.{arith}
use Rattle.pybuf_desc.specs.Facts.{first_inside, fewer_ranges}
use Rattle.pybuf_desc.specs.SegmentLines.{ranges_of_line}
use Rattle.pybuf_verbs_writes.proofs.LineCopies.{others_inside, bytes_counted, line_laid}
use Rattle.pybuf_verbs_writes.proofs.laid.lay_ranges.Goals as goal

pub lay_line-from-requires-clause-inside : goal.lay_line-from-requires-clause-inside
lay_line-from-requires-clause-inside c = first_inside c.loop-line.bytes (ranges_of_line c.in-Some.line) c.loop-line.ranges c.next_line.new.self c.in-Some.ensures.takes c.loop-line.invariant.inside

pub lay_line-from-requires-clause-enough : goal.lay_line-from-requires-clause-enough
lay_line-from-requires-clause-enough c = omega (arith, c.loop-line.invariant.as_many, bytes_counted c.in-Some.line c.loop-line.ranges c.next_line.new.self c.in-Some.ensures.takes)

pub loop-line-preserved : goal.loop-line-preserved
loop-line-preserved c = record {
  laid = line_laid c.loop-line.bytes c.lay_line-from.new.bytes c.args.content.now _ c.loop-line.from c.lay_line-from.result c.in-Some.line c.loop-line.ranges c.next_line.new.self c.in-Some.ensures.takes c.lay_line-from.ensures.next c.lay_line-from.ensures.copied c.loop-line.invariant.as_many c.loop-line.invariant.laid;
  inside = others_inside c.loop-line.bytes c.lay_line-from.new.bytes (ranges_of_line c.in-Some.line) c.loop-line.ranges c.next_line.new.self c.lay_line-from.ensures.long c.in-Some.ensures.takes c.loop-line.invariant.inside;
  as_many = omega (arith, c.loop-line.invariant.as_many, c.lay_line-from.ensures.next, bytes_counted c.in-Some.line c.loop-line.ranges c.next_line.new.self c.in-Some.ensures.takes);
}

pub loop-line-smaller : goal.loop-line-smaller
loop-line-smaller c = fewer_ranges c.in-Some.line c.loop-line.ranges c.next_line.new.self c.in-Some.ensures.takes c.in-Some.ensures.line

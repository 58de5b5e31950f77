use Rattle.pybuf_desc.specs.Facts.{first_inside, fewer_ranges}
use Rattle.pybuf_desc.specs.SegmentLines.{ranges_of_line}
use Rattle.pybuf_memoryview.proofs.Gathered.{others_inside, gather_step}
use Rattle.pybuf_memoryview.proofs.content.gather.Goals as goal

pub push_line-requires-clause-inside : goal.push_line-requires-clause-inside
push_line-requires-clause-inside c = first_inside c.args.bytes.now (ranges_of_line c.in-Some.line) c.loop-line.ranges c.next_line.new.self c.in-Some.ensures.takes c.loop-line.invariant.1

pub loop-line-preserved : goal.loop-line-preserved
loop-line-preserved c = (
  gather_step c.args.bytes.now c.loop-line.gathered.items c.push_line.new.gathered.items _ (ranges_of_line c.in-Some.line) c.loop-line.ranges c.next_line.new.self c.in-Some.ensures.takes c.in_ok-push_line.ensures c.loop-line.invariant.0,
  others_inside c.args.bytes.now (ranges_of_line c.in-Some.line) c.loop-line.ranges c.next_line.new.self c.in-Some.ensures.takes c.loop-line.invariant.1,
)

pub loop-line-smaller : goal.loop-line-smaller
loop-line-smaller c = fewer_ranges c.in-Some.line c.loop-line.ranges c.next_line.new.self c.in-Some.ensures.takes c.in-Some.ensures.line

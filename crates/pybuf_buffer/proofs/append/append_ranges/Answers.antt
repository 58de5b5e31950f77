use Rattle.std.specs.Prelude.{vec_len, vec_capacity, length}
use Rattle.pybuf_desc.specs.Facts.{fewer_ranges}
use Rattle.pybuf_desc.specs.SegmentLines.{ranges_of_line}
use Rattle.pybuf_buffer.proofs.Appended.{first_fits, others_fit, first_inside, others_inside, appended, steps_more}
use Rattle.pybuf_buffer.proofs.append.append_ranges.Goals as goal

pub append_line-requires-clause-inside : goal.append_line-requires-clause-inside
append_line-requires-clause-inside g c = first_inside (length c.args.bytes.now) (ranges_of_line c.in-Some.line) c.loop-line.ranges c.next_line.new.self c.in-Some.ensures.takes c.loop-line.invariant.inside

pub append_line-requires-clause-room : goal.append_line-requires-clause-room
append_line-requires-clause-room g c =
    first_fits c.args.bytes.now (ranges_of_line c.in-Some.line) c.loop-line.ranges c.next_line.new.self (vec_len c.loop-line.buf) (vec_capacity c.loop-line.buf) c.in-Some.ensures.takes c.loop-line.invariant.room

pub loop-line-preserved : goal.loop-line-preserved
loop-line-preserved g c =
    let kept = c.loop-line.invariant in
    let same = c.in-Some.ensures.takes in
    let first = ranges_of_line c.in-Some.line in record {
      inside = others_inside (length c.args.bytes.now) first c.loop-line.ranges c.next_line.new.self same kept.inside;
      room = others_fit c.args.bytes.now first c.loop-line.ranges c.next_line.new.self (vec_len c.loop-line.buf) (vec_capacity c.loop-line.buf) (vec_len c.append_line.new.buf) (vec_capacity c.append_line.new.buf) same kept.room c.append_line.ensures.len c.append_line.ensures.room;
      bytes = appended c.args.bytes.now c.loop-line.buf.items c.append_line.new.buf.items _ first c.loop-line.ranges c.next_line.new.self same c.append_line.ensures.bytes kept.bytes;
      steps = steps_more c.in-Some.line c.loop-line.ranges c.next_line.new.self c.loop-line.steps c.add.new.self _ same c.add.ensures kept.steps;
    }

pub loop-line-smaller : goal.loop-line-smaller
loop-line-smaller g c = fewer_ranges c.in-Some.line c.loop-line.ranges c.next_line.new.self c.in-Some.ensures.takes c.in-Some.ensures.line

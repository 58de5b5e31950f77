use Rattle.std.proofs.Common.{◌+◌, refl, arith}
use Rattle.pybuf_line.specs.Facts.{few_lines}
use Rattle.pybuf_line.specs.Lines.{lines}
use Rattle.pybuf_sessions.proofs.Lines.{one_asked, counted}
use Rattle.pybuf_sessions.proofs.reading.read_scripts.Goals as goal

pub overflow_add-number : goal.overflow_add-number
overflow_add-number c =
    let more = counted c.loop-line.number (lines c.loop-line.rest.now) (lines c.in-Some.after.now) (lines c.args.input.now) c.in-Some.line.now c.in-Some.ensures c.loop-line.invariant.count in
    let few = few_lines c.args.input.now in
    omega (arith, more, few)

pub loop-line-preserved : goal.loop-line-preserved
loop-line-preserved c = record {
  asked = one_asked _ _ _ (c.loop-line.number + 1) _ _ _ _ c.in-Ok.ensures.0 c.loop-line.invariant.asked c.in-Some.ensures c.in-Ok.ensures.1 c.in-Ok.ensures.2 refl;
  count = counted c.loop-line.number (lines c.loop-line.rest.now) (lines c.in-Some.after.now) (lines c.args.input.now) c.in-Some.line.now c.in-Some.ensures c.loop-line.invariant.count;
}

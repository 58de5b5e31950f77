use Rattle.pybuf_line.proofs.Colons.{too_many_parts}
use Rattle.pybuf_line.proofs.spellings.slice.Goals as goal

pub returns-in_default-around_colon-2 : goal.returns-in_default-around_colon-2
returns-in_default-around_colon-2 c =
    too_many_parts c.args.text.now c.in-Some.start.now c.in-Some.bounds.now c.in-Some-around_colon.stop.now c.in-Some-around_colon.step.now
    c.in_default-around_colon-2.field-0.0.now c.in_default-around_colon-2.field-0.1.now
    c.in-Some.ensures c.in-Some-around_colon.ensures c.in_default-around_colon-2.ensures

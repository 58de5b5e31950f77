use Rattle.pybuf_line.proofs.NestingLaws.{nesting_is}
use Rattle.pybuf_line.proofs.laws.nesting_is_the_shape.Goals as goal

pub returns : goal.returns
returns c = nesting_is

use Rattle.pybuf_line.proofs.NestingLaws.{in_order}
use Rattle.pybuf_line.proofs.laws.items_stand_in_order.Goals as goal

pub returns : goal.returns
returns c = in_order

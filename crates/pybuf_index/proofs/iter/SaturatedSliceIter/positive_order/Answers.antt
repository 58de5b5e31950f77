-- Numbers that lie one positive distance apart rise.
use Rattle.pybuf_index.proofs.SpanLemmas.{rising-increases}
use Rattle.pybuf_index.proofs.iter.SaturatedSliceIter.positive_order.Goals as goal

pub returns-clause-rises : goal.returns-clause-rises
returns-clause-rises c = rising-increases c.self.inside.left c.self.inside.low c.self.inside.stride c.self.invariant.1

use Rattle.pybuf_buffer.proofs.Bounds.{are_bounded}
use Rattle.pybuf_buffer.proofs.laws.range_counts_are_bounded.Goals as goal

pub returns : goal.returns
returns c = are_bounded c.tails_are_greatest.ensures

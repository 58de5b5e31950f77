use Rattle.pybuf_buffer.proofs.Bounds.{are_bounded_by_rows}
use Rattle.pybuf_buffer.proofs.laws.range_counts_are_bounded_by_rows.Goals as goal

pub returns : goal.returns
returns c = are_bounded_by_rows c.tails_are_greatest.ensures

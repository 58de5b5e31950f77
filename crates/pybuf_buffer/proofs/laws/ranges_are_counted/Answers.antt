use Rattle.pybuf_buffer.proofs.Ranges.{are_counted}
use Rattle.pybuf_buffer.proofs.laws.ranges_are_counted.Goals as goal

pub returns : goal.returns
returns c = are_counted

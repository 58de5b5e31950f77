use Rattle.std.proofs.Common.{eqb-true, arith}
use Rattle.pybuf_lanes.proofs.Blocks.{all_below_16}
use Rattle.pybuf_lanes.proofs.pairs.are_values.Goals as goal

pub returns : goal.returns
returns c empty = all_below_16 c.args.lanes 16 c.fits-lanes.0 (omega arith) (eqb-true _ _ empty)

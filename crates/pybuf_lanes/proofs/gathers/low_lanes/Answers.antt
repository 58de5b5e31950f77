use Rattle.pybuf_lanes.proofs.Lowest.{quarters, quarters_fit}
use Rattle.pybuf_lanes.proofs.gathers.low_lanes.Goals as goal

pub overflow_cast-result : goal.overflow_cast-result
overflow_cast-result c = quarters_fit c.args.bytes

pub returns : goal.returns
returns c = quarters c.args.bytes c.fits-bytes.0 c.fits-bytes.1

use Rattle.std.proofs.Common.{arith}
use Rattle.std.proofs.lemmas.Simd.{length-chunk}
use lib.Lanes.{chunk}
use Rattle.pybuf_lanes.proofs.Runs.{lanes_turned}
use Rattle.pybuf_lanes.proofs.gathers.turned_at.Goals as goal

pub returns : goal.returns
returns c = lanes_turned (chunk c.args.at 16 c.args.source.now) (length-chunk c.args.at 16 c.args.source.now (omega arith))

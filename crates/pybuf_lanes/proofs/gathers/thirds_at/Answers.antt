use Rattle.pybuf_lanes.proofs.Lowest.{every_third}
use Rattle.pybuf_lanes.proofs.gathers.thirds_at.Goals as goal

pub returns : goal.returns
returns c = every_third c.args.source.now c.args.at c.requires

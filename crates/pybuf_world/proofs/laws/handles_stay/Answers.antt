use Rattle.pybuf_world.proofs.Refusals.{handles_stay_so}
use Rattle.pybuf_world.proofs.laws.handles_stay.Goals as goal

pub returns : goal.returns
returns c = handles_stay_so

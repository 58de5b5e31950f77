use Rattle.pybuf_world.proofs.Stays.{world_lengths_stay_so}
use Rattle.pybuf_world.proofs.laws.world_lengths_stay.Goals as goal

pub returns : goal.returns
returns c = world_lengths_stay_so c.lengths_stay.ensures

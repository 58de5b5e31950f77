use Rattle.pybuf_world.proofs.Stays.{world_iterators_stay_so}
use Rattle.pybuf_world.proofs.laws.world_iterators_stay.Goals as goal

pub returns : goal.returns
returns c = world_iterators_stay_so c.iterators_stay.ensures

use Rattle.pybuf_world.proofs.Stays.{world_bytes_stay_so}
use Rattle.pybuf_world.proofs.laws.world_readonly_bytes_stay.Goals as goal

pub returns : goal.returns
returns c = world_bytes_stay_so c.readonly_bytes_stay.ensures

use Rattle.pybuf_world.proofs.Making.{stand_behind}
use Rattle.pybuf_world.proofs.laws.new_exporters_stand_behind.Goals as goal

pub returns : goal.returns
returns c = stand_behind

use Rattle.pybuf_world.proofs.Making.{unknown_refused}
use Rattle.pybuf_world.proofs.laws.unknown_sources_are_refused.Goals as goal

pub returns : goal.returns
returns c = unknown_refused

use Rattle.pybuf_world.proofs.Releases.{by_handle_twice}
use Rattle.pybuf_world.proofs.laws.releasing_twice_is_once.Goals as goal

pub returns-clause-by_number : goal.returns-clause-by_number
returns-clause-by_number c = c.releasing_twice_is_once.ensures

pub returns-clause-by_handle : goal.returns-clause-by_handle
returns-clause-by_handle c = by_handle_twice c.releasing_twice_is_once.ensures

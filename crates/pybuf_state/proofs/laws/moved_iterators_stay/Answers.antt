use Rattle.pybuf_state.proofs.Keeping.{iterators_moved}
use Rattle.pybuf_state.proofs.laws.moved_iterators_stay.Goals as goal

pub returns : goal.returns
returns c = iterators_moved

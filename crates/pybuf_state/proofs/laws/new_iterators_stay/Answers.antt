use Rattle.pybuf_state.proofs.Keeping.{iterators_added}
use Rattle.pybuf_state.proofs.laws.new_iterators_stay.Goals as goal

pub returns : goal.returns
returns c = iterators_added

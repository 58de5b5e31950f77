use Rattle.pybuf_verbs_iters.proofs.Iterating.{iterators_safe}
use Rattle.pybuf_verbs_iters.proofs.laws.iterators_are_safe.Goals as goal

pub returns : goal.returns
returns c = iterators_safe c.moved_iterators_stay.ensures

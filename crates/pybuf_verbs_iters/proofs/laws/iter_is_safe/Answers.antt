use Rattle.pybuf_verbs_iters.proofs.Iterating.{iter_safe}
use Rattle.pybuf_verbs_iters.proofs.laws.iter_is_safe.Goals as goal

pub returns : goal.returns
returns c = iter_safe c.new_iterators_stay.ensures

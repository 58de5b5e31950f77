use Rattle.pybuf_verbs_views.proofs.Twice.{released_twice}
use Rattle.pybuf_verbs_views.proofs.laws.releasing_twice_is_once.Goals as goal

pub returns : goal.returns
returns c = released_twice

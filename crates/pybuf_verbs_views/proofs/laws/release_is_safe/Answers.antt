use Rattle.pybuf_verbs_views.proofs.Safe.{release_safe}
use Rattle.pybuf_verbs_views.proofs.laws.release_is_safe.Goals as goal

pub returns : goal.returns
returns c = release_safe c.releasing_keeps.ensures

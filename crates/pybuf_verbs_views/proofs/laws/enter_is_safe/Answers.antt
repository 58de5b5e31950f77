use Rattle.pybuf_verbs_views.proofs.Safe.{enter_safe}
use Rattle.pybuf_verbs_views.proofs.laws.enter_is_safe.Goals as goal

pub returns : goal.returns
returns c = enter_safe c.reading_keeps.ensures

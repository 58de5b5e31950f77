use Rattle.pybuf_verbs_methods.proofs.Safe.{contains_safe}
use Rattle.pybuf_verbs_methods.proofs.laws.contains_is_safe.Goals as goal

pub returns : goal.returns
returns c = contains_safe c.reading_keeps.ensures

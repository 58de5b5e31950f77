use Rattle.pybuf_verbs_compare.proofs.Safe.{compare_safe}
use Rattle.pybuf_verbs_compare.proofs.laws.compare_is_safe.Goals as goal

pub returns : goal.returns
returns c = compare_safe c.reading_keeps.ensures

use Rattle.pybuf_verbs_compare.proofs.Safe.{repr_safe}
use Rattle.pybuf_verbs_compare.proofs.laws.repr_is_safe.Goals as goal

pub returns : goal.returns
returns c = repr_safe c.reading_keeps.ensures

use Rattle.pybuf_verbs_compare.proofs.Safe.{hash_safe}
use Rattle.pybuf_verbs_compare.proofs.laws.hash_is_safe.Goals as goal

pub returns : goal.returns
returns c = hash_safe c.reading_keeps.ensures

use Rattle.pybuf_verbs_reads.proofs.Safe.{tolist_safe}
use Rattle.pybuf_verbs_reads.proofs.laws.tolist_is_safe.Goals as goal

pub returns : goal.returns
returns c = tolist_safe c.reading_keeps.ensures

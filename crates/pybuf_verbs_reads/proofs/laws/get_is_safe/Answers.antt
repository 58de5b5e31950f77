use Rattle.pybuf_verbs_reads.proofs.Safe.{get_safe}
use Rattle.pybuf_verbs_reads.proofs.laws.get_is_safe.Goals as goal

pub returns : goal.returns
returns c = get_safe c.reading_keeps.ensures

use Rattle.pybuf_verbs_reads.proofs.Safe.{len_safe}
use Rattle.pybuf_verbs_reads.proofs.laws.len_is_safe.Goals as goal

pub returns : goal.returns
returns c = len_safe c.reading_keeps.ensures

use Rattle.pybuf_verbs_reads.proofs.Safe.{bytes_safe}
use Rattle.pybuf_verbs_reads.proofs.laws.bytes_is_safe.Goals as goal

pub returns : goal.returns
returns c = bytes_safe c.reading_keeps.ensures

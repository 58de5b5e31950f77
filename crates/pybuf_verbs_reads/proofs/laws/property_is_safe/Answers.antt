use Rattle.pybuf_verbs_reads.proofs.Safe.{property_safe}
use Rattle.pybuf_verbs_reads.proofs.laws.property_is_safe.Goals as goal

pub returns : goal.returns
returns c = property_safe c.reading_keeps.ensures

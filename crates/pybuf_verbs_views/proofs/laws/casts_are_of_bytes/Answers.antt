use Rattle.pybuf_verbs_views.proofs.Safe.{casts_of_bytes}
use Rattle.pybuf_verbs_views.proofs.laws.casts_are_of_bytes.Goals as goal

pub returns : goal.returns
returns c = casts_of_bytes

use Rattle.pybuf_verbs_views.proofs.Safe.{contiguous_copied}
use Rattle.pybuf_verbs_views.proofs.laws.contiguous_is_copied.Goals as goal

pub returns : goal.returns
returns c = contiguous_copied

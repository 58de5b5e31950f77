use Rattle.pybuf_verbs_methods.proofs.Safe.{call_safe}
use Rattle.pybuf_verbs_methods.proofs.laws.call_is_safe.Goals as goal

pub returns : goal.returns
returns c = call_safe c.reading_keeps.ensures

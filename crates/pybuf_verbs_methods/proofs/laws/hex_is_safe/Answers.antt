use Rattle.pybuf_verbs_methods.proofs.Safe.{hex_safe}
use Rattle.pybuf_verbs_methods.proofs.laws.hex_is_safe.Goals as goal

pub returns : goal.returns
returns c = hex_safe c.reading_keeps.ensures

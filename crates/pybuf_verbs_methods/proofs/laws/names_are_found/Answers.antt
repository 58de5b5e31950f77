use Rattle.pybuf_verbs_methods.proofs.Finding.{names_found}
use Rattle.pybuf_verbs_methods.proofs.laws.names_are_found.Goals as goal

pub returns : goal.returns
returns c = names_found

use Rattle.pybuf_verbs_methods.proofs.Finding.{lents_paired}
use Rattle.pybuf_verbs_methods.proofs.laws.lents_are_paired.Goals as goal

pub returns : goal.returns
returns c = lents_paired

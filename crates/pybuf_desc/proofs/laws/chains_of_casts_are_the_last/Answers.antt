use Rattle.pybuf_desc.proofs.ChainLemmas.{chains_are_the_last}
use Rattle.pybuf_desc.proofs.laws.chains_of_casts_are_the_last.Goals as goal

pub returns : goal.returns
returns c = chains_are_the_last

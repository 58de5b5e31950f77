use Rattle.pybuf_nd.proofs.ChainLemmas.{chain}
use Rattle.pybuf_nd.proofs.laws.chains_stand.Goals as goal

pub returns : goal.returns
returns c = chain

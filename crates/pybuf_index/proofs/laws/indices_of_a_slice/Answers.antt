use Rattle.pybuf_index.proofs.LawLemmas.{picks_are}
use Rattle.pybuf_index.proofs.laws.indices_of_a_slice.Goals as goal

pub returns : goal.returns
returns c = picks_are

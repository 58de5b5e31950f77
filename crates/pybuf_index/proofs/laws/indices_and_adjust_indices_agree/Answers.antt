use Rattle.pybuf_index.proofs.PartLemmas.{indices_agree}
use Rattle.pybuf_index.proofs.laws.indices_and_adjust_indices_agree.Goals as goal

pub returns : goal.returns
returns c = indices_agree

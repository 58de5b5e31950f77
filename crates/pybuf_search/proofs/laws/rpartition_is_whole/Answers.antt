use Rattle.pybuf_search.proofs.JoinLaws.{rpartition-whole}
use Rattle.pybuf_search.proofs.laws.rpartition_is_whole.Goals as goal

pub returns : goal.returns
returns c = rpartition-whole

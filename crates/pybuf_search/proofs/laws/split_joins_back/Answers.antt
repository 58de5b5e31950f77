use Rattle.pybuf_search.proofs.JoinLaws.{split-joins-back}
use Rattle.pybuf_search.proofs.laws.split_joins_back.Goals as goal

pub returns : goal.returns
returns c = split-joins-back

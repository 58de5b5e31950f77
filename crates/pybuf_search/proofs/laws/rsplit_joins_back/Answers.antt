use Rattle.pybuf_search.proofs.JoinLaws.{rsplit-joins-back}
use Rattle.pybuf_search.proofs.laws.rsplit_joins_back.Goals as goal

pub returns : goal.returns
returns c = rsplit-joins-back

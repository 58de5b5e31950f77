use Rattle.pybuf_search.proofs.JoinLaws.{partition-whole}
use Rattle.pybuf_search.proofs.laws.partition_is_whole.Goals as goal

pub returns : goal.returns
returns c = partition-whole

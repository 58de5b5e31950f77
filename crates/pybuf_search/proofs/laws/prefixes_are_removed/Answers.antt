use Rattle.pybuf_search.proofs.EndLaws.{prefix_is_removed}
use Rattle.pybuf_search.proofs.laws.prefixes_are_removed.Goals as goal

pub returns : goal.returns
returns c = prefix_is_removed

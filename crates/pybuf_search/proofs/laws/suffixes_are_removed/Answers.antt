use Rattle.pybuf_search.proofs.EndLaws.{suffix_is_removed}
use Rattle.pybuf_search.proofs.laws.suffixes_are_removed.Goals as goal

pub returns : goal.returns
returns c = suffix_is_removed

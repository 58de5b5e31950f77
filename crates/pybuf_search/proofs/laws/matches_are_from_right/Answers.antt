use Rattle.pybuf_search.proofs.MatchLaws.{matches-greatest}
use Rattle.pybuf_search.proofs.laws.matches_are_from_right.Goals as goal

pub returns : goal.returns
returns c = matches-greatest

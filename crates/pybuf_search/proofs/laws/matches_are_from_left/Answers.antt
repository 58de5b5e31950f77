use Rattle.pybuf_search.proofs.MatchLaws.{matches-least}
use Rattle.pybuf_search.proofs.laws.matches_are_from_left.Goals as goal

pub returns : goal.returns
returns c = matches-least

use Rattle.std.proofs.Common.{◌≡◌, ◌+◌, ◌-◌, length, [], refl, ◌∙◌, arith}
use Rattle.memchr.proofs.lemmas.MatchLemmas.{length-matches-empty}
use Rattle.pybuf_search.proofs.laws.empty_stands_everywhere.Goals as goal

pub returns : goal.returns
returns c bytes =
    let whole : length bytes - 0 + 1 ≡ length bytes + 1 = omega arith in
    length-matches-empty bytes [] 0 (omega arith) refl ∙ whole

-- Where a needle stands in bytes.
use Rattle.std.specs.Prelude.{ℕ, Bool, List, length, Option, is_some}
use Rattle.memchr.specs.Find.{first_of}
use Rattle.pybuf_search.specs.Matches.{matches_from_left, matches_from_right}

-- the first place at which the needle stands
abbrev pub first_place : List ℕ → List ℕ → Option ℕ
first_place bytes needle = first_of (matches_from_left bytes needle)

-- the last place at which the needle stands
abbrev pub last_place : List ℕ → List ℕ → Option ℕ
last_place bytes needle = first_of (matches_from_right bytes needle)

-- whether the needle stands anywhere
abbrev pub holds_needle : List ℕ → List ℕ → Bool
holds_needle bytes needle = is_some (first_place bytes needle)

-- how many matches the needle has, of which no two overlap
abbrev pub number_of_matches : List ℕ → List ℕ → ℕ
number_of_matches bytes needle = length (matches_from_left bytes needle)

-- The matches of a needle in bytes: places at which it stands, of which no two overlap.
use Rattle.std.specs.Prelude.{ℕ, List, length}
use Rattle.memchr.specs.Find.{matches, rmatches}

-- The least place at which the needle stands, then the least at or past the end of that match, and so
-- on. An empty needle matches at each place from 0 to the length. (`AreFromLeft` of the laws says so.)
abbrev pub matches_from_left : List ℕ → List ℕ → List ℕ
matches_from_left bytes needle = matches bytes needle 0

-- The same from the end: the greatest place at which the needle stands, then the greatest place of a match that ends at
-- or before that one, and so on. (`AreFromRight` of the laws says so.)
abbrev pub matches_from_right : List ℕ → List ℕ → List ℕ
matches_from_right bytes needle = rmatches bytes needle (length bytes)

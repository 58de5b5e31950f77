-- Bytes cut at the matches of a separator.
use Rattle.std.specs.Prelude.{ℕ, ℤ, pos, negsuc, ◌+◌, ◌-◌, ◌^◌, Bool, true, false, List, [], ◌∷◌, length, take, drop, reverse, Option, Some, None}
use Rattle.bstr.specs.Text.{split_at, rsplit_at}
use Rattle.pybuf_search.specs.Matches.{matches_from_left, matches_from_right}
use Rattle.pybuf_search.specs.Places.{first_place, last_place}

-- the matches at which bytes are cut: this many of them, and all of them if the number is negative
abbrev pub cuts : ℤ → List ℕ → List ℕ
cuts (pos most) matches = take most matches
cuts (negsuc _) matches = matches

-- how many parts there may be, as a machine word: one more than cuts, and any number if the number of cuts is negative
abbrev pub parts_allowed : ℤ → ℕ
parts_allowed (pos most) = most + 1
parts_allowed (negsuc _) = 2 ^ 64 - 1

-- what stands between the first matches from the left
abbrev pub split_parts : ℤ → List ℕ → List ℕ → List (List ℕ)
split_parts most separator bytes = split_at bytes (length separator) 0 (cuts most (matches_from_left bytes separator))

-- what stands between the first matches from the right, in order
abbrev pub rsplit_parts : ℤ → List ℕ → List ℕ → List (List ℕ)
rsplit_parts most separator bytes =
    reverse (rsplit_at bytes (length separator) (length bytes) (cuts most (matches_from_right bytes separator)))

-- ---- one cut

-- what stands before a match, whether there is one, and what stands behind it; without a match, all bytes stand before
-- it
abbrev pub around : List ℕ → List ℕ → Option ℕ → List ℕ × Bool × List ℕ
around separator bytes None = (bytes, false, [])
around separator bytes (Some place) = (take place bytes, true, drop (place + length separator) bytes)

-- what stands behind the last match, whether there is one, and what stands before it; without a match, all bytes stand
-- behind it
abbrev pub around_last : List ℕ → List ℕ → Option ℕ → List ℕ × Bool × List ℕ
around_last separator bytes None = (bytes, false, [])
around_last separator bytes (Some place) = (drop (place + length separator) bytes, true, take place bytes)

-- the front, whether the separator was found, and the back
abbrev pub partition_of : List ℕ → List ℕ → List ℕ × Bool × List ℕ
partition_of separator bytes = around separator bytes (first_place bytes separator)

-- the back, whether the separator was found, and the front
abbrev pub rpartition_of : List ℕ → List ℕ → List ℕ × Bool × List ℕ
rpartition_of separator bytes = around_last separator bytes (last_place bytes separator)

-- the separator if it was found, else nothing
abbrev pub middle : List ℕ → Bool → List ℕ
middle separator true = separator
middle separator false = []

-- the three parts in order
abbrev pub partition_parts : List ℕ → List ℕ → List (List ℕ)
partition_parts separator bytes =
    let parts = partition_of separator bytes in
    parts.0 ∷ middle separator parts.1 ∷ parts.2 ∷ []

abbrev pub rpartition_parts : List ℕ → List ℕ → List (List ℕ)
rpartition_parts separator bytes =
    let parts = rpartition_of separator bytes in
    parts.2 ∷ middle separator parts.1 ∷ parts.0 ∷ []

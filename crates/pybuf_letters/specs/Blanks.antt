-- Bytes cut at their blanks.
use Rattle.std.specs.Prelude.{ℕ, zero, suc, Bool, not, ◌==◌, ℤ, pos, negsuc, List, [], ◌∷◌, ◌++◌, length, take, drop, map, reverse, filter}
use Rattle.std.specs.List.{slice_split, position_or_len}
use Rattle.pybuf_letters.specs.Classes.{is_blank}
use Rattle.pybuf_letters.specs.Strips.{stripped_left}

-- the greatest runs without blanks, in order: what stands between blanks, unless that is nothing
abbrev pub runs : List ℕ → List (List ℕ)
runs bytes = filter (λ run. not (length run == 0)) (slice_split is_blank bytes)

-- the bytes from the next run on
abbrev pub next_run : List ℕ → List ℕ
next_run bytes = stripped_left is_blank bytes

-- the bytes from the first blank on
abbrev pub next_blank : List ℕ → List ℕ
next_blank bytes = drop (position_or_len is_blank bytes) bytes

-- what stands behind this many runs at the front, from the next run on
abbrev pub after_runs : ℕ → List ℕ → List ℕ
after_runs zero bytes = next_run bytes
after_runs (suc n) bytes = after_runs n (next_blank (next_run bytes))

-- a part, unless it has no byte
abbrev pub part_if_any : List ℕ → List (List ℕ)
part_if_any [] = []
part_if_any (b ∷ rest) = (b ∷ rest) ∷ []

-- this many runs from the front, and then the rest of the bytes as the last part
abbrev pub runs_up_to : ℕ → List ℕ → List (List ℕ)
runs_up_to n bytes = take n (runs bytes) ++ part_if_any (after_runs n bytes)

-- the parts if bytes are cut from the left, at most this many times; a negative number is no bound
abbrev pub blank_parts : ℤ → List ℕ → List (List ℕ)
blank_parts (pos n) bytes = runs_up_to n bytes
blank_parts (negsuc n) bytes = runs bytes

-- the parts if bytes are cut from the right, the last part first: the bytes are cut as they read from their end
abbrev pub blank_parts_from_last : ℤ → List ℕ → List (List ℕ)
blank_parts_from_last max bytes = map reverse (blank_parts max (reverse bytes))

-- the parts if bytes are cut from the right, in order
abbrev pub blank_rparts : ℤ → List ℕ → List (List ℕ)
blank_rparts max bytes = reverse (blank_parts_from_last max bytes)

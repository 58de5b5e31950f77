-- Bytes cut into lines.
use Rattle.std.specs.Prelude.{ℕ, Bool, false, not, ◌&&◌, ◌||◌, ◌==◌, List, [], ◌∷◌, map, if◌then◌else◌}
use Rattle.std.specs.List.{onto_first, before_first}

-- a line feed or a carriage return
abbrev pub is_line_break : ℕ → Bool
is_line_break b = b == 10 || b == 13

abbrev pub begins_with_feed : List ℕ → Bool
begins_with_feed [] = false
begins_with_feed (b ∷ rest) = b == 10

-- a line ends with a line feed, or with a carriage return that no line feed follows
abbrev pub ends_line : ℕ → List ℕ → Bool
ends_line b rest = b == 10 || b == 13 && not (begins_with_feed rest)

-- how many bytes the line end takes that the bytes begin with
abbrev pub end_length : List ℕ → ℕ
end_length [] = 0
end_length (b ∷ rest) = if b == 13 && begins_with_feed rest then 2 else 1

-- the lines with their ends; the last one may have none
abbrev pub whole_lines : List ℕ → List (List ℕ)
whole_lines [] = []
whole_lines (b ∷ rest) = if ends_line b rest then (b ∷ []) ∷ whole_lines rest else onto_first b (whole_lines rest)

-- a line without its end
abbrev pub without_end : List ℕ → List ℕ
without_end line = before_first is_line_break line

-- the lines, with their ends or without
abbrev pub split_lines : Bool → List ℕ → List (List ℕ)
split_lines keep_ends bytes = if keep_ends then whole_lines bytes else map without_end (whole_lines bytes)

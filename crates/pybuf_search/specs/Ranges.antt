-- Searches in a range of bytes.
use Rattle.std.specs.Prelude.{◌≡◌, ℕ, ◌+◌, List, Option, None, Some}
use Rattle.std.specs.Option.{option_map}
use Rattle.std.specs.Borrow.{Bor}
use Rattle.std.specs.declared.ops.Range.{Range}
use Rattle.pybuf_search.specs.Places.{number_of_matches}
use Rattle.pybuf_search.specs.Bounds.{in_range}

-- the place that a search finds in a part that begins at `start`, counted from the front of the bytes; none if there is
-- no part
abbrev pub place_in_part : (List ℕ → List ℕ → Option ℕ) → List ℕ → ℕ → Option (List ℕ) → Option ℕ
place_in_part search needle start None = None
place_in_part search needle start (Some part) = option_map (λ place. start + place) (search part needle)

-- the place that a search finds in a range, counted from the front of the bytes; none if the range's start passes its
-- end
abbrev pub place_in_range : (List ℕ → List ℕ → Option ℕ) → List ℕ → List ℕ → Range ℕ → Option ℕ
place_in_range search bytes needle range = place_in_part search needle range.start (in_range bytes range)

-- the number of matches in a part; 0 if there is no part
abbrev pub number_in_part : List ℕ → Option (List ℕ) → ℕ
number_in_part needle None = 0
number_in_part needle (Some part) = number_of_matches part needle

-- the number of matches in a range; 0 if its start passes its end
abbrev pub number_in_range : List ℕ → List ℕ → Range ℕ → ℕ
number_in_range bytes needle range = number_in_part needle (in_range bytes range)

-- a closure that is lent bytes and a needle answers what the search finds
abbrev pub IsSearch : (Bor (List ℕ) → Bor (List ℕ) → Option ℕ → Type 0) → (List ℕ → List ℕ → Option ℕ) → Type 0
IsSearch post search =
    (part needle : Bor (List ℕ)) (answer : Option ℕ) → post part needle answer → answer ≡ search part.now needle.now

-- A place in a part that begins at `start`, counted from the front of the bytes. `answers` says what a search may
-- answer for bytes and a needle, and the place is one that it may answer for this part and this needle. If there is no
-- part, there is no place, whatever the search may answer.
abbrev pub IsPlaceInPart : (List ℕ → List ℕ → Option ℕ → Type 0) → List ℕ → ℕ → Option (List ℕ) → Option ℕ → Type 0
IsPlaceInPart answers needle start None place = place ≡ None
IsPlaceInPart answers needle start (Some part) place =
    (found : Option ℕ) × answers part needle found × (place ≡ option_map (λ p. start + p) found)

-- the same for a range; there is no place if the range's start passes its end
abbrev pub IsPlaceInRange : (List ℕ → List ℕ → Option ℕ → Type 0) → List ℕ → List ℕ → Range ℕ → Option ℕ → Type 0
IsPlaceInRange answers bytes needle range place = IsPlaceInPart answers needle range.start (in_range bytes range) place

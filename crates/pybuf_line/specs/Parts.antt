-- How a text is cut into parts, and how the parts are read.
use Rattle.std.specs.Prelude.{ℕ, Bool, false, List, [], ◌∷◌, ◌==◌, ◌&&◌, not, Option, Some, if◌then◌else◌}
use Rattle.std.specs.List.{slice_split, onto_first}
use Rattle.std.specs.Str.{byte}
use Rattle.pybuf_value.specs.Choosing.{◌>>=◌}

-- the parts of a text between the places at which a byte stands
abbrev pub parts_at : ℕ → List ℕ → List (List ℕ)
parts_at separator text = slice_split (λ b. b == separator) text

-- The parts of a text between its commas, where commas between quotes don't count. The text itself may begin
-- between quotes.
abbrev pub parts_from : Bool → List ℕ → List (List ℕ)
parts_from quoted [] = [] ∷ []
parts_from quoted (b ∷ rest) =
    if b == byte "'" then onto_first b (parts_from (not quoted) rest)
    else if b == byte "," && not quoted then [] ∷ parts_from quoted rest
    else onto_first b (parts_from quoted rest)

abbrev pub parts_outside_quotes : List ℕ → List (List ℕ)
parts_outside_quotes text = parts_from false text

-- what each part spells, if every part spells something
abbrev pub each : {A : Type 0} → (List ℕ → Option A) → List (List ℕ) → Option (List A)
each spelled [] = Some []
each spelled (part ∷ more) = do
  first ← spelled part
  rest ← each spelled more
  Some (first ∷ rest)

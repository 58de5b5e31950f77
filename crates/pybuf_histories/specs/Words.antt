-- How parts and words are written, one after the other.
use Rattle.std.specs.Prelude.{ℕ, List, ◌∷◌}
use Rattle.std.specs.Str.{byte}
use Rattle.std.specs.List.{flat_map}

-- parts, each after a comma
abbrev pub after_commas : {A : Type 0} → (A → List ℕ) → List A → List ℕ
after_commas text parts = flat_map (λ part. byte "," ∷ text part) parts

-- words, each after a blank
abbrev pub after_blanks : List (List ℕ) → List ℕ
after_blanks words = flat_map (λ word. byte " " ∷ word) words

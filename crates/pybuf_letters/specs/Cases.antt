-- Bytes with their letters in another case.
use Rattle.std.specs.Prelude.{ℕ, Bool, false, List, [], ◌∷◌, map, if◌then◌else◌}
use Rattle.std.specs.Char.{is_ascii_alphabetic, is_ascii_lowercase, to_ascii_lowercase, to_ascii_uppercase}

abbrev pub lower : List ℕ → List ℕ
lower bytes = map to_ascii_lowercase bytes

abbrev pub upper : List ℕ → List ℕ
upper bytes = map to_ascii_uppercase bytes

-- a letter in the other case
abbrev pub swapped : ℕ → ℕ
swapped b = if is_ascii_lowercase b then to_ascii_uppercase b else to_ascii_lowercase b

abbrev pub swapcase : List ℕ → List ℕ
swapcase bytes = map swapped bytes

-- the first byte in upper case, the rest in lower case
abbrev pub capitalize : List ℕ → List ℕ
capitalize [] = []
capitalize (first ∷ rest) = to_ascii_uppercase first ∷ lower rest

-- a byte as a title has it: in lower case if a letter stands before it, else in upper case
abbrev pub title_byte : Bool → ℕ → ℕ
title_byte after_letter b = if after_letter then to_ascii_lowercase b else to_ascii_uppercase b

-- each byte as a title has it, if the first byte stands after a letter or not
abbrev pub title_from : Bool → List ℕ → List ℕ
title_from after_letter [] = []
title_from after_letter (b ∷ rest) = title_byte after_letter b ∷ title_from (is_ascii_alphabetic b) rest

abbrev pub title : List ℕ → List ℕ
title bytes = title_from false bytes

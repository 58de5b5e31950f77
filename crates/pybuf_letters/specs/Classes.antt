-- Classes of bytes. The letters and digits of ASCII alone are letters and digits, and a byte past 127
-- is in none of these classes.
use Rattle.std.specs.Prelude.{ℕ, Bool, true, false, not, ◌&&◌, ◌||◌, ◌==◌, nat_le, List, [], ◌∷◌, length, if◌then◌else◌}
use Rattle.std.specs.Char.{is_ascii_alphabetic, is_ascii_uppercase, is_ascii_lowercase}
use Rattle.std.specs.List.{list_all, list_any}

-- the blanks: the space, and the five from the tab to the carriage return
abbrev pub is_blank : ℕ → Bool
is_blank b = b == 32 || nat_le 9 b && nat_le b 13

-- there are bytes, and each is in the class
abbrev pub all_of : (ℕ → Bool) → List ℕ → Bool
all_of of_class bytes = not (length bytes == 0) && list_all of_class bytes

-- some byte is in the one case, and none is in the other
abbrev pub all_in_case : (ℕ → Bool) → (ℕ → Bool) → List ℕ → Bool
all_in_case is_case is_opposite bytes = list_any is_case bytes && not (list_any is_opposite bytes)

-- a byte may stand in a title after a letter if it isn't upper case, and after none if it isn't lower case
abbrev pub fits_title : Bool → ℕ → Bool
fits_title after_letter b = not (if after_letter then is_ascii_uppercase b else is_ascii_lowercase b)

-- each byte may stand in a title where it does, if the first byte stands after a letter or not
abbrev pub fits_title_from : Bool → List ℕ → Bool
fits_title_from after_letter [] = true
fits_title_from after_letter (b ∷ rest) = fits_title after_letter b && fits_title_from (is_ascii_alphabetic b) rest

-- there is a letter, no upper-case letter stands after a letter, and each lower-case one does
abbrev pub is_title : List ℕ → Bool
is_title bytes = list_any is_ascii_alphabetic bytes && fits_title_from false bytes

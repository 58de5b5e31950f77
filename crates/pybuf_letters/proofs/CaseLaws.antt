-- Changes of case, byte by byte.
use Rattle.std.proofs.Common.{◌≡◌, refl, sym, ap, ◌∙◌, ℕ, ◌+◌, ◌<◌, ◌≤◌, List, [], ◌∷◌, Bool, true, false, cond, not, map, arith}
use Rattle.std.specs.Prelude.{◌||◌, ◌↔◌, IsTrue}
use Rattle.std.specs.Char.{is_ascii_alphabetic, is_ascii_lowercase, is_ascii_uppercase, to_ascii_lowercase, to_ascii_uppercase}
use Rattle.std.specs.List.{list_any}
use Rattle.std.proofs.lemmas.Bool.Decides.{nat_tests}
use Rattle.pybuf_lemmas.proofs.Booleans.{both_hold, first_of_both, second_of_both}
use Rattle.pybuf_letters.specs.Classes.{fits_title, fits_title_from, is_title}
use Rattle.pybuf_letters.specs.Cases.{lower, upper, swapped, swapcase, capitalize, title_byte, title_from, title}

-- ---- one byte

lower-lower : (b : ℕ) → to_ascii_lowercase (to_ascii_lowercase b) ≡ to_ascii_lowercase b
lower-lower b = grind (arith, nat_tests)

lower-upper : (b : ℕ) → to_ascii_lowercase (to_ascii_uppercase b) ≡ to_ascii_lowercase b
lower-upper b = grind (arith, nat_tests)

upper-upper : (b : ℕ) → to_ascii_uppercase (to_ascii_uppercase b) ≡ to_ascii_uppercase b
upper-upper b = grind (arith, nat_tests)

lower-swapped : (b : ℕ) → to_ascii_lowercase (swapped b) ≡ to_ascii_lowercase b
lower-swapped b = grind (arith, nat_tests)

swapped-swapped : (b : ℕ) → swapped (swapped b) ≡ b
swapped-swapped b = grind (arith, nat_tests)

lower-title_byte : (after : Bool) (b : ℕ) → to_ascii_lowercase (title_byte after b) ≡ to_ascii_lowercase b
lower-title_byte true b = lower-lower b
lower-title_byte false b = lower-upper b

-- ---- each byte

each : (f g h : ℕ → ℕ) → ((b : ℕ) → f (g b) ≡ h b) → (bytes : List ℕ) → map f (map g bytes) ≡ map h bytes
each f g h same [] = refl
each f g h same (b ∷ rest) = let first = same b in let later = each f g h same rest in cc

pub lower-of_lower : (bytes : List ℕ) → lower (lower bytes) ≡ lower bytes
lower-of_lower = each to_ascii_lowercase to_ascii_lowercase to_ascii_lowercase lower-lower

pub lower-of_upper : (bytes : List ℕ) → lower (upper bytes) ≡ lower bytes
lower-of_upper = each to_ascii_lowercase to_ascii_uppercase to_ascii_lowercase lower-upper

pub upper-of_upper : (bytes : List ℕ) → upper (upper bytes) ≡ upper bytes
upper-of_upper = each to_ascii_uppercase to_ascii_uppercase to_ascii_uppercase upper-upper

pub lower-of_swapcase : (bytes : List ℕ) → lower (swapcase bytes) ≡ lower bytes
lower-of_swapcase = each to_ascii_lowercase swapped to_ascii_lowercase lower-swapped

pub swapcase-of_swapcase : (bytes : List ℕ) → swapcase (swapcase bytes) ≡ bytes
swapcase-of_swapcase [] = refl
swapcase-of_swapcase (b ∷ rest) = let first = swapped-swapped b in let later = swapcase-of_swapcase rest in cc

pub lower-of_capitalize : (bytes : List ℕ) → lower (capitalize bytes) ≡ lower bytes
lower-of_capitalize [] = refl
lower-of_capitalize (b ∷ rest) = let first = lower-upper b in let later = lower-of_lower rest in cc

lower-of_title_from : (after : Bool) (bytes : List ℕ) → lower (title_from after bytes) ≡ lower bytes
lower-of_title_from after [] = refl
lower-of_title_from after (b ∷ rest) = let first = lower-title_byte after b in let later = lower-of_title_from (is_ascii_alphabetic b) rest in cc

pub lower-of_title : (bytes : List ℕ) → lower (title bytes) ≡ lower bytes
lower-of_title = lower-of_title_from false

-- ---- titles

stays-from_fits : (after : Bool) (b : ℕ) → fits_title after b ≡ true → title_byte after b ≡ b
stays-from_fits true b h = grind (arith, nat_tests)
stays-from_fits false b h = grind (arith, nat_tests)

fits-from_stays : (after : Bool) (b : ℕ) → title_byte after b ≡ b → fits_title after b ≡ true
fits-from_stays true b h = grind (arith, nat_tests)
fits-from_stays false b h = grind (arith, nat_tests)

title_from-fits : (after : Bool) (bytes : List ℕ) → fits_title_from after bytes ≡ true → title_from after bytes ≡ bytes
title_from-fits after [] h = refl
title_from-fits after (b ∷ rest) h =
    let first = stays-from_fits after b (first_of_both (fits_title after b) (fits_title_from (is_ascii_alphabetic b) rest) h) in
    let later = title_from-fits (is_ascii_alphabetic b) rest (second_of_both (fits_title after b) (fits_title_from (is_ascii_alphabetic b) rest) h) in
    cc

fits-from_title : (after : Bool) (bytes : List ℕ) → title_from after bytes ≡ bytes → fits_title_from after bytes ≡ true
fits-from_title after [] h = refl
fits-from_title after (b ∷ rest) h =
    let first : title_byte after b ≡ b = cc in
    let later : title_from (is_ascii_alphabetic b) rest ≡ rest = cc in
    both_hold (fits_title after b) (fits_title_from (is_ascii_alphabetic b) rest) (fits-from_stays after b first) (fits-from_title (is_ascii_alphabetic b) rest later)

pub title-stays : (bytes : List ℕ) → IsTrue (is_title bytes) ↔ (IsTrue (list_any is_ascii_alphabetic bytes) × (title bytes ≡ bytes))
title-stays bytes = (
  λ h. (
    first_of_both (list_any is_ascii_alphabetic bytes) (fits_title_from false bytes) h,
    title_from-fits false bytes (second_of_both (list_any is_ascii_alphabetic bytes) (fits_title_from false bytes) h),
  ),
  λ h. both_hold (list_any is_ascii_alphabetic bytes) (fits_title_from false bytes) h.0 (fits-from_title false bytes h.1),
)

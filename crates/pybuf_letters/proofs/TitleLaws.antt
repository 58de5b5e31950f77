-- Which letters a title changes.
use Rattle.std.proofs.Common.{◌≡◌, refl, ap, ◌∙◌, ℕ, zero, suc, ◌<◌, List, [], ◌∷◌, Bool, true, false, length, slice_index, arith}
use Rattle.std.specs.Char.{is_ascii_alphabetic}
use Rattle.std.proofs.lemmas.Bool.Decides.{nat_tests}
use Rattle.pybuf_letters.specs.Cases.{title_byte, title_from, title}
use Rattle.pybuf_letters.specs.Laws.{stands_after_letter, IsTitled, TitlesChangeLetters}

-- Whether the byte before a place is a letter. A parameter says whether a letter stands before the first byte.
abbrev pub letter_before : Bool → List ℕ → ℕ → Bool
letter_before after bytes zero = after
letter_before after bytes (suc place) = is_ascii_alphabetic (slice_index bytes place)

length-title_from : (after : Bool) (bytes : List ℕ) → length (title_from after bytes) ≡ length bytes
length-title_from after [] = refl
length-title_from after (b ∷ rest) = ap suc (length-title_from (is_ascii_alphabetic b) rest)

at-title_from : (after : Bool) (bytes : List ℕ) (place : ℕ) → place < length bytes → slice_index (title_from after bytes) place ≡ title_byte (letter_before after bytes place) (slice_index bytes place)
at-title_from after [] place below = absurd (omega arith)
at-title_from after (b ∷ rest) zero below = refl
at-title_from after (b ∷ rest) (suc zero) below = at-title_from (is_ascii_alphabetic b) rest zero (omega arith)
at-title_from after (b ∷ rest) (suc (suc place)) below = at-title_from (is_ascii_alphabetic b) rest (suc place) (omega arith)

same_before : (bytes : List ℕ) (place : ℕ) → letter_before false bytes place ≡ stands_after_letter bytes place
same_before bytes zero = refl
same_before bytes (suc place) = refl

at-title : (bytes : List ℕ) (place : ℕ) → place < length bytes → slice_index (title bytes) place ≡ title_byte (stands_after_letter bytes place) (slice_index bytes place)
at-title bytes place below = at-title_from false bytes place below ∙ ap (λ (after : Bool). title_byte after (slice_index bytes place)) (same_before bytes place)

no_letter : (after : Bool) (b : ℕ) → is_ascii_alphabetic b ≡ false → title_byte after b ≡ b
no_letter true b h = grind (arith, nat_tests)
no_letter false b h = grind (arith, nat_tests)

titled : (bytes : List ℕ) (place : ℕ) → place < length bytes → IsTitled bytes (title bytes) place
titled bytes place below =
    record {
      other = λ h. at-title bytes place below ∙ no_letter (stands_after_letter bytes place) (slice_index bytes place) h;
      first = λ h before. at-title bytes place below ∙ ap (λ (after : Bool). title_byte after (slice_index bytes place)) before;
      later = λ h before. at-title bytes place below ∙ ap (λ (after : Bool). title_byte after (slice_index bytes place)) before;
    }

pub changes_letters : (bytes : List ℕ) → TitlesChangeLetters bytes
changes_letters bytes = record { count = length-title_from false bytes; each = titled bytes }

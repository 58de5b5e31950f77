-- Numbers that decimal digits spell, as `parse` reads them.
use Rattle.std.proofs.Common.{◌≡◌, ◌≢◌, ℕ, ◌<◌, ◌^◌, true, List, [], ◌∷◌, length, get_or, refl, sym, ◌∙◌, ap, subst, arith, tests}
use Rattle.std.specs.Prelude.{None}
use Rattle.std.specs.Char.{digit_value, is_ascii_digit}
use Rattle.std.specs.List.{list_all}
use Rattle.std.specs.Str.{IsUtf8}
use Rattle.std.specs.Str.Parse.{AllDigits, IsNumeral, digits_value, without_leading_plus}
use Rattle.std.proofs.lemmas.Str.Parse.{without_leading_plus_none}
use Rattle.std.proofs.lemmas.Str.Ascii.{IsAscii-from_all}
use Rattle.std.proofs.lemmas.Str.{IsUtf8-from_ascii}
use Rattle.std.proofs.lemmas.List.Sums.{AllPass-from_list_all}
use Rattle.pybuf_lemmas.proofs.Booleans.{first_of_both, second_of_both}
use Rattle.pybuf_line.specs.Scalars.{is_number, below, number_below}

digit_small : (c : ℕ) → is_ascii_digit c ≡ true → digit_value c < 10
digit_small c h = grind (arith, tests)

digit_byte : (c : ℕ) → is_ascii_digit c ≡ true → c < 128
digit_byte c h = grind (arith, tests)

digit_no_plus : (c : ℕ) → is_ascii_digit c ≡ true → c ≢ 43
digit_no_plus c h = grind (arith, tests)

digits : (text : List ℕ) → list_all is_ascii_digit text ≡ true → AllDigits 10 text
digits [] h = tt
digits (c ∷ cs) h =
    (digit_small c (first_of_both (is_ascii_digit c) (list_all is_ascii_digit cs) h), digits cs (second_of_both (is_ascii_digit c) (list_all is_ascii_digit cs) h))

-- a numeral, by its first digit
pub record IsSpelled (text : List ℕ) : Type 0 where
  pub all : list_all is_ascii_digit text ≡ true
  pub some : 0 < length text
  pub plain : without_leading_plus text ≡ text

all_of_numeral : (c : ℕ) (cs : List ℕ) → is_number (c ∷ cs) ≡ true → list_all is_ascii_digit (c ∷ cs) ≡ true
all_of_numeral c cs h = grind (arith, tests)

pub spelled : (text : List ℕ) → is_number text ≡ true → IsSpelled text
spelled [] h = cc
spelled (c ∷ cs) h =
    let all = all_of_numeral c cs h in
    record {
      all = all;
      some = omega arith;
      plain = without_leading_plus_none (c ∷ cs) (digit_no_plus c (first_of_both (is_ascii_digit c) (list_all is_ascii_digit cs) all));
    }

below_none : (bound n : ℕ) → ¬ (n < bound) → below bound n ≡ None
below_none bound n h = grind (arith, tests)

value_read : (bound : ℕ) (text : List ℕ) → is_number text ≡ true → number_below bound text ≡ below bound (digits_value 10 text)
value_read bound text h = rw h refl

pub unparsed : (text read : List ℕ) → read ≡ text → is_number text ≡ true →
    ¬ (IsNumeral 10 (without_leading_plus read) × (digits_value 10 (without_leading_plus read) < 2 ^ 64)) → None ≡ number_below (2 ^ 64) text
unparsed text read e h not =
    let s = spelled text h in
    let plain : without_leading_plus read ≡ text = ap without_leading_plus e ∙ s.plain in
    let large : ¬ (digits_value 10 text < 2 ^ 64) =
    λ small. not (subst (λ t. IsNumeral 10 t × (digits_value 10 t < 2 ^ 64)) (sym plain) ((s.some, digits text s.all), small)) in
    sym (value_read (2 ^ 64) text h ∙ below_none (2 ^ 64) (digits_value 10 text) large)

pub numeral_is_utf8 : (text : List ℕ) → is_number text ≡ true → IsUtf8 text
numeral_is_utf8 text h =
    let s = spelled text h in
    let all = AllPass-from_list_all is_ascii_digit text s.all in
    IsUtf8-from_ascii text (IsAscii-from_all text (λ k d here. digit_byte (get_or text k d) (all k d here)))

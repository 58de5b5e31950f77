-- A text of codes is cut after each code.
use Rattle.std.proofs.Common.{◌≡◌, ℕ, false, List, [], ◌∷◌, ◌++◌, length, Option, Some, None, refl, ap, ◌∙◌, arith}
use Rattle.std.specs.Char.{is_ascii_digit}
use Rattle.std.specs.List.{take_while}
use Rattle.std.specs.Str.Parse.{AllDigits}
use Rattle.std.proofs.lemmas.List.{drop_at, drop_all}
use Rattle.std.proofs.lemmas.List.Sums.{take_while-cons}
use Rattle.pybuf_lemmas.proofs.Numbers.{value_below_ten_is_digit}
use Rattle.pybuf_value.specs.Choosing.{◌>>=◌}
use Rattle.pybuf_struct.specs.declared.table.Endianness.{Endianness}
use Rattle.pybuf_struct.specs.declared.table.FormatType.{FormatType}
use Rattle.pybuf_struct.specs.Formats.{CountedCode, parts_of, count_of, allowed_code, code_after, counted_code, each_code, codes_in}

abbrev pub with_item : CountedCode → List CountedCode → Option (List CountedCode)
with_item item others = Some (item ∷ others)

-- digits and a letter behind them are the first part
parts-cut : (digits : List ℕ) (letter : ℕ) (rest : List ℕ) → AllDigits 10 digits → is_ascii_digit letter ≡ false → parts_of (digits ++ letter ∷ rest) ≡ (digits ++ letter ∷ []) ∷ parts_of rest
parts-cut [] letter rest are other = rw other refl
parts-cut (d ∷ digits) letter rest are other = rw (value_below_ten_is_digit d are.0, parts-cut digits letter rest are.1 other) refl

-- digits that no letter follows are one part
parts-digits : (d : ℕ) (digits : List ℕ) → AllDigits 10 (d ∷ digits) → parts_of (d ∷ digits) ≡ (d ∷ digits) ∷ []
parts-digits d [] are = rw (value_below_ten_is_digit d are.0) refl
parts-digits d (e ∷ digits) are = rw (value_below_ten_is_digit d are.0, parts-digits e digits are.1) refl

front_digits : (digits : List ℕ) (letter : ℕ) → AllDigits 10 digits → is_ascii_digit letter ≡ false → take_while is_ascii_digit (digits ++ letter ∷ []) ≡ digits
front_digits [] letter are other = rw (take_while-cons is_ascii_digit letter [], other) refl
front_digits (d ∷ digits) letter are other = rw (take_while-cons is_ascii_digit d (digits ++ letter ∷ []), value_below_ten_is_digit d are.0, front_digits digits letter are.1 other) refl

all_digits : (digits : List ℕ) → AllDigits 10 digits → take_while is_ascii_digit digits ≡ digits
all_digits [] are = refl
all_digits (d ∷ digits) are = rw (take_while-cons is_ascii_digit d digits, value_below_ten_is_digit d are.0, all_digits digits are.1) refl

part-code : (o : Endianness) (digits : List ℕ) (letter : ℕ) → AllDigits 10 digits → is_ascii_digit letter ≡ false → counted_code o (digits ++ letter ∷ []) ≡ code_after o (count_of digits) (letter ∷ [])
part-code o digits letter are other = rw (front_digits digits letter are other, drop_at digits (letter ∷ []) (length digits) refl) refl

regroup : (n : ℕ) (code : Option FormatType) (others : Option (List CountedCode))
    → ((code >>= λ c. Some (record { repeat = n; code = c })) >>= λ item. others >>= with_item item) ≡ (code >>= λ c. others >>= with_item (record { repeat = n; code = c }))
regroup n None others = refl
regroup n (Some c) others = refl

-- the codes of a text that begins with the digits of a count and the letter of a code
pub codes-cut : (o : Endianness) (digits : List ℕ) (letter : ℕ) (rest : List ℕ) → AllDigits 10 digits → is_ascii_digit letter ≡ false
    → codes_in o (digits ++ letter ∷ rest) ≡ (allowed_code o letter >>= λ c. codes_in o rest >>= with_item (record { repeat = count_of digits; code = c }))
unfolding codes_in
codes-cut o digits letter rest are other =
    ap (each_code o) (parts-cut digits letter rest are other)
    ∙ ap (λ (first : Option CountedCode). first >>= λ item. each_code o (parts_of rest) >>= with_item item) (part-code o digits letter are other)
    ∙ regroup (count_of digits) (allowed_code o letter) (each_code o (parts_of rest))

pub codes-none : (o : Endianness) → codes_in o [] ≡ Some []
unfolding codes_in
codes-none o = refl

-- digits that no letter follows spell no code
pub codes-digits : (o : Endianness) (d : ℕ) (digits : List ℕ) → AllDigits 10 (d ∷ digits) → codes_in o (d ∷ digits) ≡ None
unfolding codes_in
codes-digits o d digits are =
    ap (each_code o) (parts-digits d digits are)
    ∙ rw (all_digits (d ∷ digits) are, drop_all (length (d ∷ digits)) (d ∷ digits) (omega arith)) refl

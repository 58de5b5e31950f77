-- Numbers that are read digit by digit. Further digits only make a number greater.
use Rattle.std.proofs.Common.{ℕ, ◌≡◌, ◌<◌, ◌≤◌, ◌*◌, ◌+◌, ◌-◌, drop, length, get_or, List, [], ◌∷◌, Bool, true, false, cond, ◌&&◌, refl, ◌∙◌, ap, arith, tests}
use Rattle.std.specs.Prelude.{Option, Some, None}
use Rattle.std.specs.Char.{digit_value, is_ascii_digit}
use Rattle.std.specs.Str.Parse.{digits_value_after}
use Rattle.std.specs.List.{list_all}
use Rattle.std.proofs.lemmas.List.{drop_more}
use Rattle.pybuf_line.specs.Scalars.{below, number_below}

pub le-digits_value_after : (n : ℕ) (digits : List ℕ) → n ≤ digits_value_after 10 n digits
le-digits_value_after n [] = omega arith
le-digits_value_after n (c ∷ cs) = omega (arith, le-digits_value_after (n * 10 + digit_value c) cs)

pub below_none : (bound n : ℕ) → bound ≤ n → below bound n ≡ None
below_none bound n h = grind (arith, tests)

ascii_digit : (c : ℕ) → is_ascii_digit c ≡ true → digit_value c ≡ c - 48
ascii_digit c h = grind (arith, tests)

-- The number that the digits so far and those that are left spell, if it is below a bound and only digits are
-- left.
abbrev pub number_from : ℕ → ℕ → List ℕ → Option ℕ
number_from bound number rest = cond (list_all is_ascii_digit rest) (below bound (digits_value_after 10 number rest)) None

from_digit : (bound number c : ℕ) (rest : List ℕ) → is_ascii_digit c ≡ true →
    number_from bound number (c ∷ rest) ≡ number_from bound (number * 10 + (c - 48)) rest
from_digit bound number c rest h =
    ap (λ here. cond (here && list_all is_ascii_digit rest) (below bound (digits_value_after 10 (number * 10 + digit_value c) rest)) None) h
    ∙ ap (λ d. number_from bound (number * 10 + d) rest) (ascii_digit c h)

-- one more digit
pub digit_on : (bound number i : ℕ) (text : List ℕ) → i < length text → is_ascii_digit (get_or text i 0) ≡ true →
    number_from bound number (drop i text) ≡ number_from bound (number * 10 + (get_or text i 0 - 48)) (drop (i + 1) text)
digit_on bound number i text here h =
    ap (number_from bound number) (drop_more text i 0 here) ∙ from_digit bound number (get_or text i 0) (drop (i + 1) text) h

-- A number that has passed its bound stays above it.
outgrown : (bound number : ℕ) (rest : List ℕ) (digits : Bool) → bound ≤ number → cond digits (below bound (digits_value_after 10 number rest)) None ≡ None
outgrown bound number rest true h =
    let grows = le-digits_value_after number rest in below_none bound (digits_value_after 10 number rest) (omega (arith, h, grows))
outgrown bound number rest false h = refl

pub too_large : (bound number i : ℕ) (text : List ℕ) → i < length text → is_ascii_digit (get_or text i 0) ≡ true →
    bound ≤ number * 10 + (get_or text i 0 - 48) → number_from bound number (drop i text) ≡ None
too_large bound number i text here h large =
    digit_on bound number i text here h
    ∙ outgrown bound (number * 10 + (get_or text i 0 - 48)) (drop (i + 1) text) (list_all is_ascii_digit (drop (i + 1) text)) large

-- A number below a bound is below every bound that is no smaller.
pub below_more : (bound more n m : ℕ) → bound ≤ more → below bound n ≡ Some m → below more n ≡ Some m
below_more bound more n m within h = grind (arith, tests)

pub wider : (bound more n : ℕ) (digits : List ℕ) → bound ≤ more → number_below bound digits ≡ Some n → number_below more digits ≡ Some n
wider bound more n digits within h = grind (arith, tests, below_more)

-- The number of a script, as a word writes it and as the code reads it.
use Rattle.std.proofs.Common.{◌≡◌, ℕ, ◌≤◌, ◌<◌, ◌^◌, ◌==◌, ◌&&◌, Bool, true, false, cond, List, [], ◌∷◌, drop, Option, Some, None, refl, sym, ◌∙◌, ap, subst, arith, tests}
use Rattle.std.specs.Prelude.{decimal, nat_le}
use Rattle.std.specs.Char.{digit_value}
use Rattle.std.specs.Str.{bytes_eq}
use Rattle.std.specs.Str.Parse.{IsNumeral, digits_value, without_leading_plus}
use Rattle.std.proofs.lemmas.Fmt.{decimal_is_IsNumeral}
use Rattle.std.proofs.lemmas.Slice.Eq.{bytes_eq-Decides}
use Rattle.pybuf_cli.specs.Program.{written_number, script_number_in}

-- A digit is no plus.
no_plus : (c : ℕ) → digit_value c < 10 → (c == 43) ≡ false
no_plus c h = grind (arith, tests)

without_plus : (word : List ℕ) → IsNumeral 10 word → without_leading_plus word ≡ word
without_plus [] numeral = absurd (omega (arith, numeral.0))
without_plus (c ∷ cs) numeral = ap (λ plus. drop (cond plus 1 0) (c ∷ cs)) (no_plus c numeral.1.0)

-- A number that was read from a word is that of a script, and the word writes it.
pub record IsNumber (word : List ℕ) (n : ℕ) : Type 0 where
  pub low : 1 ≤ n
  pub high : n ≤ 4096
  pub writes : word ≡ decimal n
  pub value : digits_value 10 word ≡ n

by_tests : (word : List ℕ) (n m : ℕ) (low high same : Bool) → nat_le 1 n ≡ low → nat_le n 4096 ≡ high → bytes_eq word (decimal n) ≡ same →
    cond (low && high && same) (Some n) None ≡ Some m → digits_value 10 word ≡ n → IsNumber word m
by_tests word n m true true true low high same is value =
    let one : n ≡ m = cc in
    record {
      low = subst (λ x. 1 ≤ x) one (grind (arith, tests));
      high = subst (λ x. x ≤ 4096) one (grind (arith, tests));
      writes = (bytes_eq-Decides word (decimal n)).0 same ∙ ap decimal one;
      value = value ∙ one;
    }
by_tests word n m false high same low h s is value = absurd (cc)
by_tests word n m true false same low h s is value = absurd (cc)
by_tests word n m true true false low h s is value = absurd (cc)

is_number : (word : List ℕ) (m : ℕ) → script_number_in word ≡ Some m → IsNumber word m
unfolding script_number_in
is_number word m is =
    let n = digits_value 10 word in
    by_tests word n m (nat_le 1 n) (nat_le n 4096) (bytes_eq word (decimal n)) refl refl refl is refl

-- The word is parsed as this number.
record IsParsed (word : List ℕ) (m : ℕ) : Type 0 where
  numeral : IsNumeral 10 (without_leading_plus word)
  value : digits_value 10 (without_leading_plus word) ≡ m

parsed : (word : List ℕ) (m : ℕ) → IsNumber word m → IsParsed word m
parsed word m number =
    let numeral : IsNumeral 10 word = subst (IsNumeral 10) (sym number.writes) (decimal_is_IsNumeral m (omega (arith, number.high))).0 in
    let same : without_leading_plus word ≡ word = without_plus word numeral in
    record {
      numeral = subst (IsNumeral 10) (sym same) numeral;
      value = ap (digits_value 10) same ∙ number.value;
    }

no_number : (read : Option ℕ) → ((m : ℕ) → read ≡ Some m → ⊥) → None ≡ read
no_number None none = refl
no_number (Some m) none = absurd (none m refl)

-- whether a word is parsed as a number, and as which
abbrev pub Parses : List ℕ → Type 0
Parses text = IsNumeral 10 (without_leading_plus text) × (digits_value 10 (without_leading_plus text) < 2 ^ 16)

pub none_unparsed : (word text : List ℕ) → text ≡ word → ¬ (Parses text) → None ≡ script_number_in word
none_unparsed word text same not =
    no_number (script_number_in word) (λ m is.
    let number = is_number word m is in
    let p = parsed word m number in
    not (subst Parses (sym same) (p.numeral, omega (arith, p.value, number.high))))

-- what holds of a number that is parsed
pub none_but : (word text : List ℕ) (n : ℕ) → text ≡ word → n ≡ digits_value 10 (without_leading_plus text) → (IsNumber word n → ⊥) →
    None ≡ script_number_in word
none_but word text n same value not =
    no_number (script_number_in word) (λ m is.
    let number = is_number word m is in
    let p = parsed word m number in
    let one : m ≡ n = sym p.value ∙ (ap (λ x. digits_value 10 (without_leading_plus x)) (sym same) ∙ sym value) in
    not (subst (IsNumber word) one number))

pub some_number : (word : List ℕ) (n : ℕ) → (n ≡ 0 → ⊥) → n ≤ 4096 → bytes_eq word (decimal n) ≡ true → Some n ≡ script_number_in word
unfolding script_number_in
some_number word n low high same =
    let writes : word ≡ decimal n = (bytes_eq-Decides word (decimal n)).0 same in
    let value : digits_value 10 word ≡ n = ap (digits_value 10) writes ∙ (decimal_is_IsNumeral n (omega (arith, high))).1 in
    let first : nat_le 1 n ≡ true = grind (arith, tests) in
    let second : nat_le n 4096 ≡ true = grind (arith, tests) in
    sym (ap (written_number word) value
    ∙ (ap (λ x. cond (x && nat_le n 4096 && bytes_eq word (decimal n)) (Some n) None) first
    ∙ (ap (λ x. cond (x && bytes_eq word (decimal n)) (Some n) None) second ∙ ap (λ x. cond x (Some n) None) same)))

-- The word is the one that was lent, and the number is the one that is written.
pub same_written : (word lent written : List ℕ) (n : ℕ) → lent ≡ word → written ≡ decimal n → bytes_eq lent written ≡ true →
    bytes_eq word (decimal n) ≡ true
same_written word lent written n same writes is = ap (λ x. bytes_eq x (decimal n)) (sym same) ∙ (ap (bytes_eq lent) (sym writes) ∙ is)

true_is_not_false : true ≡ false → ⊥
true_is_not_false h = cc

pub differs : (word lent written : List ℕ) (n : ℕ) → lent ≡ word → written ≡ decimal n → bytes_eq lent written ≡ false → IsNumber word n → ⊥
differs word lent written n same writes is number =
    true_is_not_false
    (sym ((bytes_eq-Decides lent written).1 (same ∙ (number.writes ∙ sym writes))) ∙ is)

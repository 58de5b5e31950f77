-- A text that begins with a digit is a number or nothing.
use Rattle.std.proofs.Common.{◌≡◌, ℕ, ◌^◌, true, List, [], ◌∷◌, ◌∙◌, ap, arith, tests, pos, refl}
use Rattle.std.specs.Prelude.{Some}
use Rattle.std.specs.Char.{is_ascii_digit}
use Rattle.pybuf_value.specs.Choosing.{◌>>=◌}
use Rattle.pybuf_value.specs.declared.values.Scalar.{Scalar}
use Rattle.pybuf_value.specs.declared.values.Scalar.TheVariants as scalar
use Rattle.pybuf_value.specs.declared.values.Value.TheVariants as value
use Rattle.pybuf_line.specs.Scalars.{is_number, number_below, handle_in, positive_in, plain_in}
use Rattle.pybuf_line.specs.Spellings.{value_in}
use Rattle.pybuf_line.proofs.Digits.{wider}
use Rattle.pybuf_line.proofs.FirstByte.{by_digit}

first_digit : (b : ℕ) (bs : List ℕ) → is_number (b ∷ bs) ≡ true → is_ascii_digit b ≡ true
first_digit b bs h = grind (arith, tests)

is_some : (bound n : ℕ) (text : List ℕ) → number_below bound text ≡ Some n → is_number text ≡ true
is_some bound n text h = grind (arith, tests)

positive_is : (n : ℕ) (text : List ℕ) → number_below (2 ^ 127) text ≡ Some n → positive_in text ≡ Some (scalar.Int (pos n))
positive_is n text h = ap (λ m. m >>= (λ k. Some (scalar.Int (pos k)))) h

value_is : (text : List ℕ) (s : Scalar) → plain_in handle_in text ≡ Some s → value_in handle_in text ≡ Some (value.One s)
unfolding value_in
value_is text s h = rw h refl

pub short_value : (n : ℕ) (text : List ℕ) → number_below (2 ^ 64) text ≡ Some n → value_in handle_in text ≡ Some (value.One (scalar.Int (pos n)))
short_value n [] h = let no : ⊥ = cc in absurd no
short_value n (b ∷ bs) h =
    let digit = first_digit b bs (is_some (2 ^ 64) n (b ∷ bs) h) in
    let wide = wider (2 ^ 64) (2 ^ 127) n (b ∷ bs) (omega arith) h in
    value_is (b ∷ bs) (scalar.Int (pos n)) (by_digit b bs digit ∙ positive_is n (b ∷ bs) wide)

-- A format's text is read byte by byte, with the count so far.
use Rattle.std.proofs.Common.{◌≡◌, ℕ, ◌+◌, ◌-◌, ◌*◌, ◌<◌, Bool, true, false, List, [], ◌∷◌, ◌++◌, length, Option, Some, None, refl, sym, ap, ◌∙◌, append_assoc, arith, tests}
use Rattle.std.specs.Prelude.{unwrap_or, if◌then◌else◌}
use Rattle.std.specs.Char.{is_ascii_digit, digit_value}
use Rattle.std.specs.Str.Parse.{AllDigits, digits_value, digits_value_after}
use Rattle.std.proofs.lemmas.List.{append-nil}
use Rattle.pybuf_value.specs.Choosing.{◌>>=◌}
use Rattle.pybuf_struct.specs.declared.table.Endianness.{Endianness}
use Rattle.pybuf_struct.specs.Formats.{CountedCode, count_of, allowed_code, codes_in}
use Rattle.pybuf_struct.proofs.Cutting.{with_item, codes-cut, codes-none, codes-digits}

-- the codes of a text that goes on after the digits of a count, if there are such codes
unfoldable pub codes_after_count : Endianness → List ℕ → Option ℕ → Option (List CountedCode)
codes_after_count o [] None = Some []
codes_after_count o [] (Some n) = None
codes_after_count o (b ∷ text) count =
    if is_ascii_digit b then codes_after_count o text (Some (unwrap_or count 0 * 10 + (b - 48)))
    else (allowed_code o b >>= λ c. codes_after_count o text None >>= with_item (record { repeat = unwrap_or count 1; code = c }))

-- the count that the digits so far spell
abbrev IsCountOf : Option ℕ → List ℕ → Type 0
IsCountOf None digits = digits ≡ []
IsCountOf (Some n) digits = (0 < length digits) × AllDigits 10 digits × (digits_value 10 digits ≡ n)

digit_of : (b : ℕ) → is_ascii_digit b ≡ true → (digit_value b < 10) × (digit_value b ≡ b - 48)
digit_of b h = (grind (arith, tests), grind (arith, tests))

value-push : (n : ℕ) (digits : List ℕ) (b : ℕ) → digits_value_after 10 n (digits ++ b ∷ []) ≡ digits_value_after 10 n digits * 10 + digit_value b
value-push n [] b = refl
value-push n (d ∷ digits) b = value-push (n * 10 + digit_value d) digits b

AllDigits-push : (digits : List ℕ) (b : ℕ) → AllDigits 10 digits → digit_value b < 10 → AllDigits 10 (digits ++ b ∷ [])
AllDigits-push [] b are is = (is, tt)
AllDigits-push (d ∷ digits) b are is = (are.0, AllDigits-push digits b are.1 is)

some-push : (digits : List ℕ) (b : ℕ) → 0 < length (digits ++ b ∷ [])
some-push [] b = omega arith
some-push (d ∷ digits) b = omega arith

count-push : (count : Option ℕ) (digits : List ℕ) (b : ℕ) → IsCountOf count digits → is_ascii_digit b ≡ true → IsCountOf (Some (unwrap_or count 0 * 10 + (b - 48))) (digits ++ b ∷ [])
count-push None digits b is h =
    let d = digit_of b h in
    rw is (omega arith, (d.0, tt), omega (arith, d.1))
count-push (Some n) digits b is h =
    let d = digit_of b h in
    (some-push digits b, AllDigits-push digits b is.1 d.0, omega (arith, value-push 0 digits b, is.2, d.1))

are_digits : (count : Option ℕ) (digits : List ℕ) → IsCountOf count digits → AllDigits 10 digits
are_digits None digits is = rw is tt
are_digits (Some n) digits is = is.1

count_is : (count : Option ℕ) (digits : List ℕ) → IsCountOf count digits → count_of digits ≡ unwrap_or count 1
count_is None digits is = rw is refl
count_is (Some n) [] is = absurd (omega (arith, is.0))
count_is (Some n) (d ∷ digits) is = is.2

at_end : (o : Endianness) (count : Option ℕ) (digits : List ℕ) → IsCountOf count digits → codes_after_count o [] count ≡ codes_in o digits
unfolding codes_after_count
at_end o None digits is = rw is (sym (codes-none o))
at_end o (Some n) [] is = absurd (omega (arith, is.0))
at_end o (Some n) (d ∷ digits) is = sym (codes-digits o d digits is.1)

-- what is left of a text gives the same codes as that text with the digits so far before it
reads_byte : (o : Endianness) (b : ℕ) (text : List ℕ) (count : Option ℕ) (digits : List ℕ) → IsCountOf count digits
    → ((further : Option ℕ) (more : List ℕ) → IsCountOf further more → codes_after_count o text further ≡ codes_in o (more ++ text))
    → (r : Bool) → is_ascii_digit b ≡ r → codes_after_count o (b ∷ text) count ≡ codes_in o (digits ++ b ∷ text)
unfolding codes_after_count
reads_byte o b text count digits is rest true e =
    rw e (rest (Some (unwrap_or count 0 * 10 + (b - 48))) (digits ++ b ∷ []) (count-push count digits b is e) ∙ ap (codes_in o) (append_assoc digits (b ∷ []) text))
reads_byte o b text count digits is rest false e =
    rw e (ap (λ (others : Option (List CountedCode)). allowed_code o b >>= λ c. others >>= with_item (record { repeat = unwrap_or count 1; code = c })) (rest None [] refl)
    ∙ ap (λ (n : ℕ). allowed_code o b >>= λ c. codes_in o text >>= with_item (record { repeat = n; code = c })) (sym (count_is count digits is))
    ∙ sym (codes-cut o digits b text (are_digits count digits is) e))

-- what is left of a text gives the same codes as that text with the digits so far before it
reads : (o : Endianness) (text : List ℕ) (count : Option ℕ) (digits : List ℕ) → IsCountOf count digits → codes_after_count o text count ≡ codes_in o (digits ++ text)
reads o [] count digits is = at_end o count digits is ∙ ap (codes_in o) (sym (append-nil digits))
reads o (b ∷ text) count digits is = reads_byte o b text count digits is (λ further more k. reads o text further more k) (is_ascii_digit b) refl

pub codes_are_read : (o : Endianness) (text : List ℕ) → codes_after_count o text None ≡ codes_in o text
codes_are_read o text = reads o text None [] refl

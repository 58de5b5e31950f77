-- Pairs of digits that a text begins with, read by lanes.
use Rattle.std.proofs.Common.{◌≡◌, refl, sym, ap, ap₂, ◌∙◌, ℕ, ◌<◌, ◌+◌, ◌*◌, ◌%◌, ◌≤◌, List, [], ◌∷◌, ◌++◌, Result, Ok, Err, Option, Some, None, length, take, drop, map, arith}
use Rattle.std.specs.Option.{unwrap_or}
use Rattle.std.proofs.lemmas.Bool.Decides.{nat_tests}
use Rattle.std.proofs.lemmas.List.{length-take-le, take-append-drop}
use Rattle.hex.specs.Hex.{hex_digit_value}
use Rattle.pybuf_value.specs.declared.faults.Fault.{Fault}
use Rattle.pybuf_value.specs.Refusing.{◌>>=◌}
use Rattle.pybuf_lanes.specs.Pairs.{AreDigits, bytes_of_pairs, value_or_16}
use Rattle.pybuf_letters.specs.Classes.{is_blank}
use Rattle.pybuf_shaping.specs.Digits.{byte_of_digits, bytes_of_hex}
use Rattle.pybuf_shaping.proofs.ReadLemmas.{bytes_before, nothing_before, pair}
use Rattle.std.proofs.Common.{false}

-- a digit is no blank, and it has the value that its lane has
digit_printed : (c : ℕ) → value_or_16 c < 16 → is_blank c ≡ false
digit_printed c digit = grind (arith, nat_tests)

value_of : (c : ℕ) → value_or_16 c < 16 → hex_digit_value c ≡ Some (value_or_16 c)
value_of c digit = by_value (hex_digit_value c) digit
  where
    by_value : (value : Option ℕ) → unwrap_or value 16 < 16 → value ≡ Some (unwrap_or value 16)
    by_value (Some n) small = refl
    by_value None small = absurd (omega arith)

byte_of : (c d : ℕ) → value_or_16 c < 16 → value_or_16 d < 16 → byte_of_digits (hex_digit_value c) (hex_digit_value d) ≡ Ok (value_or_16 c * 16 + value_or_16 d)
byte_of c d high low = ap₂ byte_of_digits (value_of c high) (value_of d low)

one_before : (byte : ℕ) (bytes : List ℕ) (rest : Result (List ℕ) Fault) → (bytes_before bytes rest >>= (λ others. Ok (byte ∷ others))) ≡ bytes_before (byte ∷ bytes) rest
one_before byte bytes (Ok rest) = refl
one_before byte bytes (Err f) = refl

digits_before : (front rest : List ℕ) → AreDigits front → length front % 2 ≡ 0 → bytes_before (bytes_of_pairs (map value_or_16 front)) (bytes_of_hex rest) ≡ bytes_of_hex (front ++ rest)
digits_before [] rest are even = nothing_before (bytes_of_hex rest)
digits_before (c ∷ []) rest are even = absurd (omega arith)
digits_before (c ∷ d ∷ front) rest are even =
    let byte = value_or_16 c * 16 + value_or_16 d in
    sym (pair c d byte (front ++ rest) (digit_printed c are.0) (byte_of c d are.0 are.1.0)
    ∙ ap (λ bytes. bytes >>= (λ others. Ok (byte ∷ others))) (sym (digits_before front rest are.1.1 (omega arith)))
    ∙ one_before byte (bytes_of_pairs (map value_or_16 front)) (bytes_of_hex rest))

pub front_read : (text room : List ℕ) (count : ℕ) → AreDigits (take (2 * count) text) → take count room ≡ bytes_of_pairs (map value_or_16 (take (2 * count) text)) → 2 * count ≤ length text
    → bytes_before (take count room) (bytes_of_hex (drop (2 * count) text)) ≡ bytes_of_hex text
front_read text room count are bytes inside =
    ap (λ l. bytes_before l (bytes_of_hex (drop (2 * count) text))) bytes
    ∙ digits_before (take (2 * count) text) (drop (2 * count) text) are (omega (arith, length-take-le (2 * count) text inside))
    ∙ ap bytes_of_hex (take-append-drop (2 * count) text)

-- Hexadecimal digits of either case, read in pairs.
use Rattle.std.specs.Prelude.{ℕ, ◌+◌, ◌-◌, ◌*◌, ◌%◌, ◌<◌, min, bit_and, List, [], ◌∷◌}
use Rattle.std.specs.Option.{unwrap_or}
use Rattle.std.specs.Simd.Lanes.{Each1}
use Rattle.hex.specs.Hex.{hex_digit_value}

-- the value of a digit, and 16 for any other byte
abbrev pub value_or_16 : ℕ → ℕ
value_or_16 c = unwrap_or (hex_digit_value c) 16

-- each of the bytes is a digit
abbrev pub AreDigits : List ℕ → Type 0
AreDigits text = Each1 (λ c. value_or_16 c < 16) text

-- the bytes of values that stand in pairs, the higher first
abbrev pub bytes_of_pairs : List ℕ → List ℕ
bytes_of_pairs [] = []
bytes_of_pairs (high ∷ []) = []
bytes_of_pairs (high ∷ low ∷ values) = (high * 16 + low) ∷ bytes_of_pairs values

-- a byte as a decimal digit: below 10 for `0` to `9` alone
abbrev pub as_decimal : ℕ → ℕ
as_decimal c = ((c + 198) % 256 - 6 + 16) % 256

-- a byte as a letter of either case: 10 to 15 for `A` to `F` alone
abbrev pub as_letter : ℕ → ℕ
as_letter c = min ((bit_and c 223 + 191) % 256 + 10) 255

-- Bytes between quotes, as Python's `repr` writes them.
use Rattle.std.specs.Prelude.{ℕ, Bool, ◌/◌, ◌%◌, List, ◌∷◌, [], ◌++◌, ◌==◌, ◌&&◌, not, nat_le, codes, slice_index, if◌then◌else◌}
use Rattle.std.specs.Str.{byte}
use Rattle.std.specs.List.{flat_map, list_any}
use Rattle.hex.specs.Hex.{lower_digits}

-- the quote that stands round bytes: a double one if they hold a single quote and no double one, else a single one
abbrev pub quote_of : List ℕ → ℕ
quote_of bytes = if list_any (λ b. b == byte "'") bytes && not (list_any (λ b. b == byte "\"") bytes) then byte "\"" else byte "'"

-- whether a byte stands between quotes of this kind as it is
abbrev pub is_plain : ℕ → ℕ → Bool
is_plain quote b = nat_le 32 b && nat_le b 126 && not (b == quote) && not (b == byte "\\")

-- the two hexadecimal digits of a byte
abbrev pub digits_of : ℕ → List ℕ
digits_of b = slice_index lower_digits (b / 16) ∷ slice_index lower_digits (b % 16) ∷ []

-- how a byte is written between quotes of this kind
abbrev pub escaped_byte : ℕ → ℕ → List ℕ
escaped_byte quote b =
    if b == quote then codes "\\" ++ b ∷ []
    else if b == byte "\\" then codes "\\\\"
    else if b == byte "\t" then codes "\\t"
    else if b == byte "\n" then codes "\\n"
    else if b == byte "\r" then codes "\\r"
    else if nat_le 32 b && nat_le b 126 then b ∷ []
    else codes "\\x" ++ digits_of b

-- bytes between quotes, as Python's `repr` writes them, without the `b`
abbrev pub quoted_text : List ℕ → List ℕ
quoted_text bytes = quote_of bytes ∷ flat_map (escaped_byte (quote_of bytes)) bytes ++ quote_of bytes ∷ []

-- bytes between quotes, with one text before them and another behind them
abbrev pub repr_of : List ℕ → List ℕ → List ℕ → List ℕ
repr_of before bytes after = before ++ quoted_text bytes ++ after

-- Bytes between quotes, read back.
use Rattle.std.specs.Prelude.{ℕ, ◌+◌, ◌*◌, ◌==◌, ◌||◌, nat_lt, List, [], ◌∷◌, Option, Some, None, if◌then◌else◌}
use Rattle.std.specs.Char.{digit_value}
use Rattle.std.specs.Str.{byte}

-- where a reader stands in such a text
pub data Place : Type 0 where
  -- before a byte, an escape or the closing quote
  before : Place
  -- behind a backslash
  backslash : Place
  -- behind a backslash and an `x`
  hexadecimal : Place
  -- behind the first digit after these, by its value
  digit : ℕ → Place

-- a byte before the bytes that are read after it, if those can be read
abbrev pub with_byte : ℕ → Option (List ℕ) → Option (List ℕ)
with_byte b None = None
with_byte b (Some bytes) = Some (b ∷ bytes)

-- nothing may stand behind the closing quote
abbrev pub closed : List ℕ → Option (List ℕ)
closed [] = Some []
closed (b ∷ more) = None

-- the byte that an escape stands for: a backslash, and behind it a letter, the quote or a backslash
abbrev pub escape_in : ℕ → ℕ → Option ℕ
escape_in quote b =
    if b == quote then Some b
    else if b == byte "\\" then Some b
    else if b == byte "t" then Some (byte "\t")
    else if b == byte "n" then Some (byte "\n")
    else if b == byte "r" then Some (byte "\r")
    else None

abbrev pub with_escape : Option ℕ → Option (List ℕ) → Option (List ℕ)
with_escape None bytes = None
with_escape (Some b) bytes = with_byte b bytes

-- the bytes that a text stands for from a place on, with the escapes undone; the closing quote must be its end
abbrev pub read_from : ℕ → Place → List ℕ → Option (List ℕ)
read_from quote place [] = None
read_from quote before (b ∷ text) =
    if b == quote then closed text
    else if b == byte "\\" then read_from quote backslash text
    else with_byte b (read_from quote before text)
read_from quote backslash (b ∷ text) =
    if b == byte "x" then read_from quote hexadecimal text
    else with_escape (escape_in quote b) (read_from quote before text)
read_from quote hexadecimal (b ∷ text) =
    if nat_lt (digit_value b) 16 then read_from quote (digit (digit_value b)) text else None
read_from quote (digit high) (b ∷ text) =
    if nat_lt (digit_value b) 16 then with_byte (high * 16 + digit_value b) (read_from quote before text) else None

-- the bytes that a text between quotes stands for
abbrev pub unquoted : List ℕ → Option (List ℕ)
unquoted [] = None
unquoted (quote ∷ text) = if quote == byte "'" || quote == byte "\"" then read_from quote before text else None

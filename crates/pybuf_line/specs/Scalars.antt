-- How values without parts are read from a line and written to one.
use Rattle.std.specs.Prelude.{ℕ, ◌+◌, ◌-◌, ◌^◌, Bool, true, false, List, [], ◌∷◌, ◌++◌, length, take, drop, pos, neg_ℤ, ◌==◌, ◌&&◌, not, nat_lt, nat_le, codes, Option, Some, None, Result, Ok, Err, if◌then◌else◌}
use Rattle.std.specs.List.{list_all}
use Rattle.std.specs.Char.{is_ascii_digit}
use Rattle.std.specs.Str.{byte, bytes_eq}
use Rattle.std.specs.Str.Parse.{digits_value}
use Rattle.std.specs.Fmt.{signed_decimal}
use Rattle.hex.specs.Hex.{decode_of, encode_lower}
use Rattle.hex.specs.declared.error.FromHexError.{FromHexError}
use Rattle.pybuf_value.specs.declared.values.Scalar.{Scalar}
use Rattle.pybuf_value.specs.declared.values.Scalar.TheVariants as scalar
use Rattle.pybuf_value.specs.Choosing.{◌>>=◌, ◌or_else◌}

-- `None`, `True`, `False` and `...`
unfoldable pub constant_in : List ℕ → Option Scalar
constant_in text =
    if bytes_eq text (codes "None") then Some scalar.None
    else if bytes_eq text (codes "True") then Some (scalar.Bool true)
    else if bytes_eq text (codes "False") then Some (scalar.Bool false)
    else if bytes_eq text (codes "...") then Some scalar.Ellipsis
    else None

-- one or more decimal digits
abbrev pub is_number : List ℕ → Bool
is_number text = if length text == 0 then false else list_all is_ascii_digit text

-- a number, if it is below a bound
abbrev pub below : ℕ → ℕ → Option ℕ
below bound n = if nat_lt n bound then Some n else None

-- one or more decimal digits of a number below a bound, which may begin with zeros
abbrev pub number_below : ℕ → List ℕ → Option ℕ
number_below bound text = if is_number text then below bound (digits_value 10 text) else None

-- `h` and a number below 2^64
abbrev pub handle_in : List ℕ → Option ℕ
handle_in [] = None
handle_in (first ∷ digits) = if first == byte "h" then number_below (2 ^ 64) digits else None

-- a handle as a value, by the way in which a handle is read
abbrev pub handle_value_in : (List ℕ → Option ℕ) → List ℕ → Option Scalar
handle_value_in name_in text = do
  n ← name_in text
  Some (scalar.Handle n)

abbrev pub positive_in : List ℕ → Option Scalar
positive_in digits = do
  n ← number_below (2 ^ 127) digits
  Some (scalar.Int (pos n))

abbrev pub negative_in : List ℕ → Option Scalar
negative_in digits = do
  n ← number_below (2 ^ 127 + 1) digits
  Some (scalar.Int (neg_ℤ (pos n)))

-- a whole number of 128 bits: decimal digits, with or without a `-` before them
abbrev pub whole_in : List ℕ → Option Scalar
whole_in [] = None
whole_in (first ∷ rest) = if first == byte "-" then negative_in rest else positive_in (first ∷ rest)

-- The bytes of pairs of hexadecimal digits of either case. There may be no pair.
abbrev pub bytes_decoded : Result (List ℕ) FromHexError → Option (List ℕ)
bytes_decoded (Ok bytes) = Some bytes
bytes_decoded (Err e) = None

-- `x` and pairs of hexadecimal digits
abbrev pub bytes_in : List ℕ → Option Scalar
bytes_in [] = None
bytes_in (first ∷ pairs) =
    if first == byte "x" then (do
      bytes ← bytes_decoded (decode_of pairs)
      Some (scalar.Bytes bytes))
    else None

-- what stands before a last byte, which must be this one
abbrev pub before_end : ℕ → List ℕ → Option (List ℕ)
before_end last text =
    if bytes_eq (drop (length text - 1) text) (last ∷ []) then Some (take (length text - 1) text) else None

-- what stands between a first byte and a last one, which must be these
abbrev pub enclosed_text : ℕ → ℕ → List ℕ → Option (List ℕ)
enclosed_text opening closing [] = None
enclosed_text opening closing (first ∷ rest) = if first == opening then before_end closing rest else None

-- A byte that may stand in a text. It is a printed byte of ASCII, and neither a blank nor a quote.
abbrev pub is_text_byte : ℕ → Bool
is_text_byte b = nat_le 0x21 b && nat_le b 0x7e && not (b == byte "'")

-- one or more such bytes
abbrev pub is_text : List ℕ → Bool
is_text text = if length text == 0 then false else list_all is_text_byte text

-- a text between quotes
abbrev pub text_in : List ℕ → Option Scalar
text_in quoted = do
  text ← enclosed_text (byte "'") (byte "'") quoted
  if is_text text then Some (scalar.Text text) else None

-- the scalars other than text, by the way in which a handle is read
abbrev pub plain_in : (List ℕ → Option ℕ) → List ℕ → Option Scalar
plain_in name_in text = constant_in text or_else whole_in text or_else handle_value_in name_in text or_else bytes_in text

abbrev pub scalar_in : (List ℕ → Option ℕ) → List ℕ → Option Scalar
scalar_in name_in text = plain_in name_in text or_else text_in text

-- How a value without parts is written, by the way in which a handle is written. A number has no leading zeros,
-- and bytes are in lower case.
abbrev pub written_scalar : (ℕ → List ℕ) → Scalar → List ℕ
written_scalar name scalar.None = codes "None"
written_scalar name (scalar.Bool true) = codes "True"
written_scalar name (scalar.Bool false) = codes "False"
written_scalar name (scalar.Int number) = signed_decimal number
written_scalar name (scalar.Text text) = byte "'" ∷ text ++ byte "'" ∷ []
written_scalar name (scalar.Bytes bytes) = byte "x" ∷ encode_lower bytes
written_scalar name scalar.Ellipsis = codes "..."
written_scalar name (scalar.Handle handle) = name handle

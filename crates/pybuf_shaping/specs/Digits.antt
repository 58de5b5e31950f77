-- Bytes as hexadecimal digits, in groups with a separator between each two, and read back from digits.
use Rattle.std.specs.Prelude.{ℕ, zero, suc, ◌+◌, ◌-◌, ◌*◌, ◌/◌, nat_lt, ℤ, pos, negsuc, List, [], ◌∷◌, ◌++◌, length, take, drop, Option, Some, None, Result, Ok, Err, if◌then◌else◌}
use Rattle.std.specs.List.{flat_map}
use Rattle.hex.specs.Hex.{encode_lower, hex_digit_value}
use Rattle.pybuf_value.specs.declared.faults.Fault.{Fault}
use Rattle.pybuf_value.specs.declared.faults.Fault.TheVariants as fault
use Rattle.pybuf_value.specs.Refusing.{◌>>=◌}
use Rattle.pybuf_value.specs.Texts.{fitted}
use Rattle.pybuf_letters.specs.Classes.{is_blank}

-- ---- groups

-- this many groups of one size, one after another
abbrev pub groups_of : ℕ → ℕ → List ℕ → List (List ℕ)
groups_of size zero bytes = []
groups_of size (suc count) bytes = take size bytes ∷ groups_of size count (drop size bytes)

-- how many groups stand behind the first one
abbrev pub further : ℕ → List ℕ → ℕ
further size bytes = (length bytes - 1) / size

-- groups that are counted from the left: the last group has what is left
abbrev pub groups_from_left : ℕ → List ℕ → List (List ℕ)
groups_from_left size bytes = take size bytes ∷ groups_of size (further size bytes) (drop size bytes)

-- the size of the first group if groups are counted from the right: it has what is left
abbrev pub first_size : ℕ → List ℕ → ℕ
first_size size bytes = length bytes - further size bytes * size

abbrev pub groups_from_right : ℕ → List ℕ → List (List ℕ)
groups_from_right size bytes = take (first_size size bytes) bytes ∷ groups_of size (further size bytes) (drop (first_size size bytes) bytes)

-- ---- the text

-- the digits of a group behind a separator
abbrev pub behind : ℕ → List ℕ → List ℕ
behind separator group = separator ∷ encode_lower group

-- the digits of the groups, with a separator between each two
abbrev pub separated : ℕ → List (List ℕ) → List ℕ
separated separator [] = []
separated separator (group ∷ groups) = encode_lower group ++ flat_map (behind separator) groups

-- a separator is one byte of ASCII
abbrev pub separator_in : List ℕ → Result ℕ Fault
separator_in (byte ∷ []) = if nat_lt byte 128 then Ok byte else Err fault.Value
separator_in _ = Err fault.Value

-- the groups: counted from the right if the size is positive, and from the left if it is negative
abbrev pub grouped : ℤ → List ℕ → List (List ℕ)
grouped (pos size) bytes = groups_from_right size bytes
grouped (negsuc size) bytes = groups_from_left (suc size) bytes

abbrev pub text_by_groups : List ℕ → ℤ → List ℕ → Result (List ℕ) Fault
text_by_groups separator size bytes = do
  byte ← separator_in separator
  fitted (separated byte (grouped size bytes))

-- The digits of bytes. If there are no bytes, no separator, or a size of 0, neither a separator nor a size is checked.
abbrev pub hex_text : Option (List ℕ) → ℤ → List ℕ → Result (List ℕ) Fault
hex_text separator size [] = Ok []
hex_text None size bytes = fitted (encode_lower bytes)
hex_text (Some separator) (pos zero) bytes = fitted (encode_lower bytes)
hex_text (Some separator) size bytes = text_by_groups separator size bytes

-- ---- read back

-- a number as the value of a digit, if it is one
abbrev pub value_below_16 : ℕ → Option ℕ
value_below_16 n = if nat_lt n 16 then Some n else None

-- the byte of two digits, each in either case
abbrev pub byte_of_digits : Option ℕ → Option ℕ → Result ℕ Fault
byte_of_digits (Some high) (Some low) = Ok (high * 16 + low)
byte_of_digits _ _ = Err fault.Value

-- the bytes of pairs of digits; blanks before, between and behind the pairs are left out
abbrev pub bytes_of_hex : List ℕ → Result (List ℕ) Fault
bytes_of_hex [] = Ok []
bytes_of_hex (c ∷ []) = if is_blank c then Ok [] else Err fault.Value
bytes_of_hex (c ∷ d ∷ text) = if is_blank c then bytes_of_hex (d ∷ text) else (do
  byte ← byte_of_digits (hex_digit_value c) (hex_digit_value d)
  bytes ← bytes_of_hex text
  Ok (byte ∷ bytes))

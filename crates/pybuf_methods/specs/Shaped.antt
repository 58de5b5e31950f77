-- Methods that give bytes another shape.
use Rattle.std.specs.Prelude.{ℕ, ℤ, pos, negsuc, List, Option, Some, Result, Ok}
use Rattle.pybuf_value.specs.declared.faults.Fault.{Fault}
use Rattle.pybuf_value.specs.declared.snaps.Snap.{Snap}
use Rattle.pybuf_value.specs.declared.values.Value.{Value}
use Rattle.pybuf_value.specs.Refusing.{◌>>=◌}
use Rattle.pybuf_value.specs.Numbers.{count_in, count_or}
use Rattle.pybuf_value.specs.Snaps.{bytes_in}
use Rattle.pybuf_value.specs.Texts.{text_in}
use Rattle.pybuf_shaping.specs.Arguments.{fill_of, translation}
use Rattle.pybuf_shaping.specs.Digits.{hex_text, bytes_of_hex}
use Rattle.pybuf_shaping.specs.Padding.{zero_filled}
use Rattle.pybuf_shaping.specs.Replacing.{replacement}
use Rattle.pybuf_shaping.specs.Tables.{table_of}
use Rattle.pybuf_shaping.specs.Tabs.{expanded, tab_size}
use Rattle.pybuf_bytes.specs.Shaping.{decoded}
use Rattle.pybuf_bytes.specs.declared.methods.MethodReply.{MethodReply}
use Rattle.pybuf_bytes.specs.declared.methods.MethodReply.TheVariants as reply
use Rattle.pybuf_methods.specs.Given.{one, two, at_most_one, at_most_two, one_or_two, two_or_three, separator_given, text_given}

-- the digits of bytes, by the arguments; a group is one byte if no size is given
abbrev pub hex_of : List (ℕ × Snap) → Option Value → Option Value → List ℕ → Result (List ℕ) Fault
hex_of pairs sep group bytes = do
  separator ← separator_given pairs sep
  size ← count_or (pos 1) group
  hex_text separator size bytes

abbrev pub hex : List (ℕ × Snap) → List ℕ → List Value → Result MethodReply Fault
hex pairs bytes args = do
  given ← at_most_two args
  text ← hex_of pairs given.0 given.1 bytes
  Ok (reply.Text text)

abbrev pub fromhex : List Value → Result MethodReply Fault
fromhex args = do
  digits ← one args
  text ← text_in digits
  bytes ← bytes_of_hex text
  Ok (reply.Bytes bytes)

-- the width, and then the fill byte, which is a space if none is given
abbrev pub width_and_fill : List (ℕ × Snap) → List Value → Result (ℤ × ℕ) Fault
width_and_fill pairs args = do
  given ← one_or_two args
  width ← count_in given.0
  fill ← fill_of pairs given.1
  Ok (width, fill)

-- the bytes, padded to a width in one of three ways
abbrev pub padded : (ℤ → ℕ → List ℕ → List ℕ) → List (ℕ × Snap) → List ℕ → List Value → Result MethodReply Fault
padded shape pairs bytes args = do
  given ← width_and_fill pairs args
  Ok (reply.Bytes (shape given.0 given.1 bytes))

abbrev pub zfill : List ℕ → List Value → Result MethodReply Fault
zfill bytes args = do
  given ← one args
  width ← count_in given
  Ok (reply.Bytes (zero_filled width bytes))

abbrev pub expandtabs : List ℕ → List Value → Result MethodReply Fault
expandtabs bytes args = do
  given ← at_most_one args
  size ← count_or (pos 8) given
  whole ← expanded (tab_size size) bytes
  Ok (reply.Bytes whole)

abbrev pub maketrans : List (ℕ × Snap) → List Value → Result MethodReply Fault
maketrans pairs args = do
  given ← two args
  from ← bytes_in pairs given.0
  to ← bytes_in pairs given.1
  table ← table_of from to
  Ok (reply.Bytes table)

abbrev pub translate : List (ℕ × Snap) → List ℕ → List Value → Result MethodReply Fault
translate pairs bytes args = do
  given ← one_or_two args
  whole ← translation pairs (Some given.0) given.1 bytes
  Ok (reply.Bytes whole)

-- the bytes with others in place of matches; all matches are replaced if no number is given
abbrev pub replace : List (ℕ × Snap) → List ℕ → List Value → Result MethodReply Fault
replace pairs bytes args = do
  given ← two_or_three args
  old ← bytes_in pairs given.0
  new ← bytes_in pairs given.1
  most ← count_or (negsuc 0) given.2
  whole ← replacement most old new bytes
  Ok (reply.Bytes whole)

abbrev pub decode : List ℕ → List Value → Result MethodReply Fault
decode bytes args = do
  given ← at_most_two args
  encoding ← text_given given.0
  errors ← text_given given.1
  text ← decoded bytes encoding errors
  Ok (reply.Text text)

-- Arguments that are a text, or whose bytes are borrowed.
use Rattle.std.specs.Prelude.{ℕ, not, List, Result, Ok}
use Rattle.pybuf_value.specs.declared.faults.Fault.{Fault}
use Rattle.pybuf_value.specs.declared.faults.Fault.TheVariants as fault
use Rattle.pybuf_value.specs.declared.snaps.Snap.{Snap}
use Rattle.pybuf_value.specs.declared.values.Scalar.TheVariants as scalar
use Rattle.pybuf_value.specs.declared.values.Value.{Value}
use Rattle.pybuf_value.specs.declared.values.Value.TheVariants as value
use Rattle.pybuf_value.specs.Refusing.{◌>>=◌, unless}
use Rattle.pybuf_value.specs.Texts.{is_ascii}
use Rattle.pybuf_borrow.specs.Arguments.{argument_of}
use Rattle.pybuf_borrow.specs.declared.texts.ArgStrOrBytesLike.{ArgStrOrBytesLike}
use Rattle.pybuf_borrow.specs.declared.texts.ArgStrOrBytesLike.TheVariants as either
use Rattle.pybuf_borrow.specs.declared.texts.ArgAsciiBuffer.{ArgAsciiBuffer}
use Rattle.pybuf_borrow.specs.declared.texts.ArgAsciiBuffer.TheVariants as ascii

-- A text stays a text, and the bytes of every other value are borrowed.
abbrev pub text_or_bytes : List (ℕ × Snap) → Value → Result ArgStrOrBytesLike Fault
text_or_bytes pairs (value.One (scalar.Text text)) = Ok (either.Str text)
text_or_bytes pairs v = do
  argument ← argument_of pairs v
  Ok (either.Buf argument)

-- the value that such an argument was made of
abbrev pub object_of : ArgStrOrBytesLike → Value
object_of (either.Buf argument) = argument.object
object_of (either.Str text) = value.One (scalar.Text text)

-- the bytes of such an argument, and those of a text are its UTF-8
abbrev pub bytes_of : ArgStrOrBytesLike → List ℕ
bytes_of (either.Buf argument) = argument.bytes
bytes_of (either.Str text) = text

-- the same, but a text must be ASCII
abbrev pub ascii_or_bytes : List (ℕ × Snap) → Value → Result ArgAsciiBuffer Fault
ascii_or_bytes pairs (value.One (scalar.Text text)) = do
  _ ← unless (not (is_ascii text)) fault.Value
  Ok (ascii.Text text)
ascii_or_bytes pairs v = do
  argument ← argument_of pairs v
  Ok (ascii.Buffer argument)

abbrev pub ascii_bytes_of : ArgAsciiBuffer → List ℕ
ascii_bytes_of (ascii.Text text) = text
ascii_bytes_of (ascii.Buffer argument) = argument.bytes

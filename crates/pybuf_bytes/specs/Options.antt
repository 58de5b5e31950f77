-- What bytes are made from: the arguments of Python's `bytes(source, encoding, errors)`, with its checks in their
-- order.
use Rattle.std.specs.Prelude.{ℕ, Bool, true, not, ◌||◌, ◌&&◌, ℤ, pos, negsuc, List, [], replicate, codes, Option, Some, None, Result, Ok, Err}
use Rattle.std.specs.Str.{bytes_eq}
use Rattle.pybuf_value.specs.declared.faults.Fault.{Fault}
use Rattle.pybuf_value.specs.declared.faults.Fault.TheVariants as fault
use Rattle.pybuf_value.specs.declared.snaps.Snap.{Snap}
use Rattle.pybuf_value.specs.declared.values.Value.{Value}
use Rattle.pybuf_value.specs.Refusing.{◌>>=◌, unless}
use Rattle.pybuf_value.specs.Numbers.{number_of, fitted_number}
use Rattle.pybuf_value.specs.Texts.{text_in, is_ascii}
use Rattle.pybuf_value.specs.Snaps.{bytes_in}
use Rattle.pybuf_command.specs.declared.options.ByteInnerNewOptions.{ByteInnerNewOptions}

-- ---- a source alone

-- a size is at least 0, and asks for this many zero bytes
abbrev pub zeros_of : ℤ → Result (List ℕ) Fault
zeros_of (pos n) = Ok (replicate n 0)
zeros_of (negsuc n) = Err fault.Value

abbrev pub sized_bytes : ℤ → Result (List ℕ) Fault
sized_bytes number = do
  size ← fitted_number fault.Overflow number
  zeros_of size

-- a number is a size, and any other value is read as bytes, which a text can't be
abbrev pub bytes_by_number : List (ℕ × Snap) → Value → Result ℤ Fault → Result (List ℕ) Fault
bytes_by_number pairs source (Ok number) = sized_bytes number
bytes_by_number pairs source (Err f) = bytes_in pairs source

abbrev pub bytes_of_source : List (ℕ × Snap) → Value → Result (List ℕ) Fault
bytes_of_source pairs source = bytes_by_number pairs source (number_of source)

-- ---- a text and its encoding

abbrev pub is_utf8_name : List ℕ → Bool
is_utf8_name name = bytes_eq name (codes "utf-8") || bytes_eq name (codes "utf8")

abbrev pub is_ascii_name : List ℕ → Bool
is_ascii_name name = bytes_eq name (codes "ascii")

-- whether the handler of errors is `strict`, the only one there is; it needn't be named
abbrev pub is_strict : Option (List ℕ) → Bool
is_strict None = true
is_strict (Some name) = bytes_eq name (codes "strict")

-- the bytes of a text, which is kept as its UTF-8
abbrev pub encoded : Value → List ℕ → Option (List ℕ) → Result (List ℕ) Fault
encoded source encoding errors = do
  text ← text_in source
  _ ← unless (not (is_utf8_name encoding || is_ascii_name encoding)) fault.Value
  _ ← unless (not (is_strict errors)) fault.Value
  _ ← unless (is_ascii_name encoding && not (is_ascii text)) fault.Value
  Ok text

-- ---- the options

-- the text of an argument that may be missing
abbrev pub text_given : Option Value → Result (Option (List ℕ)) Fault
text_given None = Ok None
text_given (Some v) = do
  text ← text_in v
  Ok (Some text)

-- the bytes, by what is given: nothing, a source alone, or a source with its encoding
abbrev pub bytes_by : List (ℕ × Snap) → Option Value → Option (List ℕ) → Option (List ℕ) → Result (List ℕ) Fault
bytes_by pairs None None None = Ok []
bytes_by pairs None _ _ = Err fault.Kind
bytes_by pairs (Some source) None None = bytes_of_source pairs source
bytes_by pairs (Some source) None (Some errors) = Err fault.Kind
bytes_by pairs (Some source) (Some encoding) errors = encoded source encoding errors

-- An encoding and a handler of errors must be texts if they are given. This is checked before all else.
abbrev pub bytes_of_options : List (ℕ × Snap) → Option Value → Option Value → Option Value → Result (List ℕ) Fault
bytes_of_options pairs source encoding errors = do
  encoding ← text_given encoding
  errors ← text_given errors
  bytes_by pairs source encoding errors

-- the bytes that options ask for
abbrev pub bytes_asked : List (ℕ × Snap) → ByteInnerNewOptions → Result (List ℕ) Fault
bytes_asked pairs options = bytes_of_options pairs options.source options.encoding options.errors

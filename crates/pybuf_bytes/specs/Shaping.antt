-- Strings of bytes in other shapes, by arguments that may be missing, and strings of bytes as texts.
use Rattle.std.specs.Prelude.{ℕ, Bool, true, false, not, ◌||◌, ◌&&◌, ℤ, pos, List, Option, Some, None, Result, Ok}
use Rattle.std.specs.Str.{is_utf8}
use Rattle.pybuf_value.specs.declared.faults.Fault.{Fault}
use Rattle.pybuf_value.specs.declared.faults.Fault.TheVariants as fault
use Rattle.pybuf_value.specs.Refusing.{◌>>=◌, unless}
use Rattle.pybuf_value.specs.Texts.{is_ascii}
use Rattle.pybuf_bytes.specs.Options.{is_utf8_name, is_ascii_name, is_strict}

-- the size of a group of digits: one byte if none is given
abbrev pub group_given : Option ℤ → ℤ
group_given None = pos 1
group_given (Some size) = size

-- ---- texts

-- the codec is UTF-8 if none is named
abbrev pub is_utf8_codec : Option (List ℕ) → Bool
is_utf8_codec None = true
is_utf8_codec (Some name) = is_utf8_name name

abbrev pub is_ascii_codec : Option (List ℕ) → Bool
is_ascii_codec None = false
is_ascii_codec (Some name) = is_ascii_name name

-- bytes are a text if they are UTF-8
abbrev pub text_of : List ℕ → Result (List ℕ) Fault
text_of bytes = do
  _ ← unless (not (is_utf8 bytes)) fault.Value
  Ok bytes

-- The text that bytes stand for in a codec. The codec and the handler of errors are checked even if there are no bytes.
abbrev pub decoded : List ℕ → Option (List ℕ) → Option (List ℕ) → Result (List ℕ) Fault
decoded bytes encoding errors = do
  _ ← unless (not (is_utf8_codec encoding || is_ascii_codec encoding)) fault.Value
  _ ← unless (not (is_strict errors)) fault.Value
  _ ← unless (is_ascii_codec encoding && not (is_ascii bytes)) fault.Value
  text_of bytes

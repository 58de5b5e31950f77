-- Bytes as texts.
use Rattle.std.specs.Prelude.{◌≡◌, ℕ, List}
use Rattle.std.specs.Global.{Vec}
use Rattle.std.specs.Str.{IsUtf8, chars}
use Rattle.pybuf_value.specs.declared.faults.Fault.TheVariants as fault
use Rattle.pybuf_value.specs.declared.faults.Outcome.{Outcome}
use Rattle.pybuf_value.specs.declared.faults.Outcome.TheVariants as outcome

-- the bytes as a text if they are UTF-8, and else the refusal
abbrev pub IsTextOf : List ℕ → Outcome (List ℕ) → Type 0
IsTextOf bytes (outcome.Done text) = IsUtf8 bytes × (text ≡ bytes)
IsTextOf bytes (outcome.Refused f) = ¬ IsUtf8 bytes × (f ≡ fault.Value)

-- the characters of the text that bytes are, or the refusal
abbrev pub AreCharactersOf : List ℕ → Outcome (Vec ℕ) → Type 0
AreCharactersOf bytes (outcome.Done found) = IsUtf8 bytes × (found.items ≡ chars bytes)
AreCharactersOf bytes (outcome.Refused f) = ¬ IsUtf8 bytes × (f ≡ fault.Value)

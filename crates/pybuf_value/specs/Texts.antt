-- Which values are texts, which bytes are all ASCII, and how many bytes there may be.
use Rattle.std.specs.Prelude.{ℕ, ◌^◌, Bool, nat_lt, List, length, Result, Ok, Err, if◌then◌else◌}
use Rattle.std.specs.List.{list_all}
use Rattle.pybuf_value.specs.declared.faults.Fault.{Fault}
use Rattle.pybuf_value.specs.declared.faults.Fault.TheVariants as fault
use Rattle.pybuf_value.specs.declared.values.Scalar.TheVariants as scalar
use Rattle.pybuf_value.specs.declared.values.Value.{Value}
use Rattle.pybuf_value.specs.declared.values.Value.TheVariants as value

-- a text is itself, and nothing else is one
abbrev pub text_in : Value → Result (List ℕ) Fault
text_in (value.One (scalar.Text text)) = Ok text
text_in _ = Err fault.Kind

-- each byte is an ASCII byte, which is below 128
abbrev pub is_ascii : List ℕ → Bool
is_ascii text = list_all (λ b. nat_lt b 128) text

-- the bytes if there are at most `isize::MAX` of them, else a refusal
abbrev pub fitted : List ℕ → Result (List ℕ) Fault
fitted bytes = if nat_lt (length bytes) (2 ^ 63) then Ok bytes else Err fault.Overflow

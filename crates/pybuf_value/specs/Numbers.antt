-- Which values are numbers, and which numbers fit where.
use Rattle.std.specs.Prelude.{ℕ, ◌^◌, Bool, true, false, ℤ, pos, negsuc, Option, Some, None, Result, Ok, Err, nat_lt, if◌then◌else◌}
use Rattle.pybuf_value.specs.declared.faults.Fault.{Fault}
use Rattle.pybuf_value.specs.declared.faults.Fault.TheVariants as fault
use Rattle.pybuf_value.specs.Refusing.{◌>>=◌}
use Rattle.pybuf_value.specs.declared.values.Scalar.{Scalar}
use Rattle.pybuf_value.specs.declared.values.Scalar.TheVariants as scalar
use Rattle.pybuf_value.specs.declared.values.Value.{Value}
use Rattle.pybuf_value.specs.declared.values.Value.TheVariants as value

-- a whole number is itself, a truth value 0 or 1, and nothing else is a number
abbrev pub number_in : Scalar → Result ℤ Fault
number_in (scalar.Int n) = Ok n
number_in (scalar.Bool true) = Ok (pos 1)
number_in (scalar.Bool false) = Ok (pos 0)
number_in _ = Err fault.Kind

abbrev pub number_of : Value → Result ℤ Fault
number_of (value.One s) = number_in s
number_of _ = Err fault.Kind

-- a number from `isize::MIN` to `isize::MAX`
abbrev pub is_word : ℤ → Bool
is_word (pos n) = nat_lt n (2 ^ 63)
is_word (negsuc n) = nat_lt n (2 ^ 63)

-- the number if it is a word, else the fault
abbrev pub fitted_number : Fault → ℤ → Result ℤ Fault
fitted_number f n = if is_word n then Ok n else Err f

-- a number that must fit a word
abbrev pub count_in : Value → Result ℤ Fault
count_in v = do
  n ← number_of v
  fitted_number fault.Overflow n

-- the same, or another number if no value is given
abbrev pub count_or : ℤ → Option Value → Result ℤ Fault
count_or absent None = Ok absent
count_or absent (Some v) = count_in v

-- how many times something is repeated: a negative number repeats it no times
abbrev pub times : ℤ → ℕ
times (pos n) = n
times (negsuc n) = 0

-- a number from 0 to 255
abbrev pub byte_of : ℤ → Result ℕ Fault
byte_of (pos n) = if nat_lt n 256 then Ok n else Err fault.Value
byte_of (negsuc n) = Err fault.Value

-- the byte that a value stands for: the value must be a number, and then the number must be in range
abbrev pub byte_in : Value → Result ℕ Fault
byte_in v = do
  n ← number_of v
  byte_of n

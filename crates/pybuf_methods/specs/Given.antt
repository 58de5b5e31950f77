-- The arguments that a call is given: how many there are, and what each stands for.
use Rattle.std.specs.Prelude.{◌≡◌, ℕ, nat_lt, ℤ, pos, negsuc, Bool, true, false, List, [], ◌∷◌, Option, None, Some, Result, Ok, Err}
use Rattle.pybuf_value.specs.declared.faults.Fault.{Fault}
use Rattle.pybuf_value.specs.declared.faults.Fault.TheVariants as fault
use Rattle.pybuf_value.specs.declared.faults.Outcome.{Outcome}
use Rattle.pybuf_value.specs.declared.faults.Outcome.TheVariants as outcome
use Rattle.pybuf_value.specs.declared.halt.Halt.{Halt}
use Rattle.pybuf_value.specs.declared.halt.Halt.TheVariants as halt
use Rattle.pybuf_value.specs.declared.snaps.Snap.{Snap}
use Rattle.pybuf_value.specs.declared.values.Scalar.{Scalar}
use Rattle.pybuf_value.specs.declared.values.Scalar.TheVariants as scalar
use Rattle.pybuf_value.specs.declared.values.Value.{Value}
use Rattle.pybuf_value.specs.declared.values.Value.TheVariants as value
use Rattle.pybuf_value.specs.Refusing.{◌>>=◌}
use Rattle.pybuf_value.specs.Numbers.{number_of}
use Rattle.pybuf_value.specs.Snaps.{bytes_in, bytes_alone}
use Rattle.pybuf_value.specs.Texts.{text_in}

-- ---- what stops a call

-- why a call stops: its answer is this refusal; if memory ran out, nothing is said
abbrev pub IsStopped : {X E : Type 0} → Result (Outcome X) E → Halt → Type 0
IsStopped answer (halt.Refused f) = answer ≡ Ok (outcome.Refused f)
IsStopped answer halt.NoMemory = Unit {0}

-- ---- how many there are: a call with any other number is refused

abbrev pub none : List Value → Result (Unit {0}) Fault
none [] = Ok tt
none _ = Err fault.Kind

abbrev pub one : List Value → Result Value Fault
one (a ∷ []) = Ok a
one _ = Err fault.Kind

abbrev pub two : List Value → Result (Value × Value) Fault
two (a ∷ b ∷ []) = Ok (a, b)
two _ = Err fault.Kind

abbrev pub at_most_one : List Value → Result (Option Value) Fault
at_most_one [] = Ok None
at_most_one (a ∷ []) = Ok (Some a)
at_most_one _ = Err fault.Kind

abbrev pub at_most_two : List Value → Result (Option Value × Option Value) Fault
at_most_two [] = Ok (None, None)
at_most_two (a ∷ []) = Ok (Some a, None)
at_most_two (a ∷ b ∷ []) = Ok (Some a, Some b)
at_most_two _ = Err fault.Kind

abbrev pub one_or_two : List Value → Result (Value × Option Value) Fault
one_or_two (a ∷ []) = Ok (a, None)
one_or_two (a ∷ b ∷ []) = Ok (a, Some b)
one_or_two _ = Err fault.Kind

abbrev pub two_or_three : List Value → Result (Value × Value × Option Value) Fault
two_or_three (a ∷ b ∷ []) = Ok (a, b, None)
two_or_three (a ∷ b ∷ c ∷ []) = Ok (a, b, Some c)
two_or_three _ = Err fault.Kind

abbrev pub one_to_three : List Value → Result (Value × Option Value × Option Value) Fault
one_to_three (a ∷ []) = Ok (a, None, None)
one_to_three (a ∷ b ∷ []) = Ok (a, Some b, None)
one_to_three (a ∷ b ∷ c ∷ []) = Ok (a, Some b, Some c)
one_to_three _ = Err fault.Kind

-- ---- what each stands for

-- a bound, where `None` stands for no bound
abbrev pub bound_in : Value → Result (Option ℤ) Fault
bound_in (value.One scalar.None) = Ok None
bound_in v = do
  n ← number_of v
  Ok (Some n)

abbrev pub bound_given : Option Value → Result (Option ℤ) Fault
bound_given None = Ok None
bound_given (Some v) = bound_in v

-- whether a number is other than 0
abbrev pub nonzero : ℤ → Bool
nonzero (pos n) = nat_lt 0 n
nonzero (negsuc n) = true

abbrev pub flag_given : Option Value → Result Bool Fault
flag_given None = Ok false
flag_given (Some v) = do
  n ← number_of v
  Ok (nonzero n)

-- the bytes of a value, where `None` stands for no bytes
abbrev pub bytes_if : List (ℕ × Snap) → Value → Result (Option (List ℕ)) Fault
bytes_if pairs (value.One scalar.None) = Ok None
bytes_if pairs v = do
  bytes ← bytes_in pairs v
  Ok (Some bytes)

abbrev pub bytes_given : List (ℕ × Snap) → Option Value → Result (Option (List ℕ)) Fault
bytes_given pairs None = Ok None
bytes_given pairs (Some v) = bytes_if pairs v

-- the text of a value, where `None` stands for no text
abbrev pub text_if : Value → Result (Option (List ℕ)) Fault
text_if (value.One scalar.None) = Ok None
text_if v = do
  text ← text_in v
  Ok (Some text)

abbrev pub text_given : Option Value → Result (Option (List ℕ)) Fault
text_given None = Ok None
text_given (Some v) = text_if v

-- the bytes of a text, of a bytes value, or of an exporter whose kind is bytes
abbrev pub separator_in : List (ℕ × Snap) → Value → Result (List ℕ) Fault
separator_in pairs (value.One (scalar.Text text)) = Ok text
separator_in pairs (value.One s) = bytes_alone pairs s
separator_in pairs _ = Err fault.Kind

abbrev pub separator_given : List (ℕ × Snap) → Option Value → Result (Option (List ℕ)) Fault
separator_given pairs None = Ok None
separator_given pairs (Some v) = do
  bytes ← separator_in pairs v
  Ok (Some bytes)

-- the bytes of each part of a list or a tuple; the first part that has none is refused
abbrev pub each_in : List (ℕ × Snap) → List Scalar → Result (List (List ℕ)) Fault
each_in pairs [] = Ok []
each_in pairs (part ∷ parts) = do
  bytes ← bytes_in pairs (value.One part)
  others ← each_in pairs parts
  Ok (bytes ∷ others)

abbrev pub lists_in : List (ℕ × Snap) → Value → Result (List (List ℕ)) Fault
lists_in pairs (value.Tuple parts) = each_in pairs parts
lists_in pairs (value.List parts) = each_in pairs parts
lists_in pairs _ = Err fault.Kind

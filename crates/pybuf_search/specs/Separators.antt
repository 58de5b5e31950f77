-- A separator and a greatest number of cuts.
use Rattle.std.specs.Prelude.{ℕ, ℤ, ◌==◌, List, length, Option, None, Some, Result, Ok, Err, if◌then◌else◌}
use Rattle.pybuf_value.specs.declared.faults.Fault.{Fault}
use Rattle.pybuf_value.specs.declared.faults.Fault.TheVariants as fault

-- what a separator is used for; an empty separator is refused
abbrev pub by_separator : {X : Type 0} → List ℕ → X → Result X Fault
by_separator separator x = if length separator == 0 then Err fault.Value else Ok x

-- a separator and a greatest number of cuts; an empty separator is refused
abbrev pub separator_in : {T : Type 0} → (T → List ℕ) → Option T → ℤ → Result (Option T × ℤ) Fault
separator_in bytes None most = Ok (None, most)
separator_in bytes (Some separator) most = by_separator (bytes separator) (Some separator, most)

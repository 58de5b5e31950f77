-- The parts of a slice, and which values can be parts.
use Rattle.std.specs.Prelude.{ℕ, zero, suc, ◌≢◌, ℤ, pos, negsuc, List, Option, None, Some, Result, Ok, Err, FitsSigned}
use Rattle.std.specs.Option.{ForSome}
use Rattle.std.specs.Int.{w64, saturate_signed}
use Rattle.pybuf_value.specs.declared.faults.Fault.{Fault}
use Rattle.pybuf_value.specs.declared.faults.Fault.TheVariants as fault
use Rattle.pybuf_value.specs.declared.values.Scalar.{Scalar}
use Rattle.pybuf_value.specs.declared.values.Scalar.TheVariants as scalar
use Rattle.pybuf_value.specs.declared.values.PySlice.{PySlice}
use Rattle.pybuf_value.specs.Numbers.{number_in}
use Rattle.pybuf_value.specs.Refusing.{◌>>=◌}
use Rattle.pybuf_index.specs.Picks.{picks}

-- the start, the stop and the step; an absent start or stop is none, and an absent step is 1
pub record SliceParts : Type 0 where
  pub start : Option ℤ
  pub stop : Option ℤ
  pub step : ℤ

-- a part: `None` stands for an absent one, and any other part must be a number or a truth value
abbrev pub part_in : Scalar → Result (Option ℤ) Fault
part_in scalar.None = Ok None
part_in s = do
  n ← number_in s
  Ok (Some n)

-- a step, which may not be 0
abbrev pub nonzero : ℤ → Result ℤ Fault
nonzero (pos zero) = Err fault.Value
nonzero (pos (suc n)) = Ok (pos (suc n))
nonzero (negsuc n) = Ok (negsuc n)

-- a step, which is 1 if it is absent
abbrev pub step_in : Scalar → Result ℤ Fault
step_in scalar.None = Ok (pos 1)
step_in s = do
  n ← number_in s
  nonzero n

-- the parts of a slice, or the first refusal: the step, then the start, then the stop
abbrev pub parts_of : PySlice → Result SliceParts Fault
parts_of slice = do
  step ← step_in slice.step
  start ← part_in slice.start
  stop ← part_in slice.stop
  Ok (record { start = start; stop = stop; step = step })

-- the number that fits `isize` and is nearest to this one
abbrev pub nearest_word : ℤ → ℤ
nearest_word n = saturate_signed w64 n

abbrev pub clamped_part : Option ℤ → Option ℤ
clamped_part None = None
clamped_part (Some n) = Some (nearest_word n)

-- the parts, of which each is replaced by the nearest number that fits `isize`
abbrev pub clamped_parts : SliceParts → SliceParts
clamped_parts parts = record { start = clamped_part parts.start; stop = clamped_part parts.stop; step = nearest_word parts.step }

-- the clamped parts of a slice, or the first refusal
abbrev pub saturated_parts_of : PySlice → Result SliceParts Fault
saturated_parts_of slice = do
  parts ← parts_of slice
  Ok (clamped_parts parts)

-- a part is absent or fits `isize`
abbrev pub FitsPart : Option ℤ → Type 0
FitsPart part = ForSome part (λ n. FitsSigned w64 n)

-- the parts fit `isize`, and the step is not 0
pub record IsSaturated (parts : SliceParts) : Type 0 where
  pub start : FitsPart parts.start
  pub stop : FitsPart parts.stop
  pub step : FitsSigned w64 parts.step
  pub moves : parts.step ≢ pos 0

-- the indices of a slice of a sequence of n items
abbrev pub picks_of : ℕ → SliceParts → List ℕ
picks_of n parts = picks n parts.start parts.stop parts.step

-- Values that are made from numbers, some of which may be missing, and the numbers of values.
use Rattle.std.specs.Prelude.{◌==◌, ℕ, ℤ, not, List, [], ◌∷◌, length, Option, Some, None, Result, Ok}
use Rattle.pybuf_value.specs.declared.faults.Fault.{Fault}
use Rattle.pybuf_value.specs.declared.faults.Fault.TheVariants as fault
use Rattle.pybuf_value.specs.Refusing.{◌>>=◌, unless}
use Rattle.pybuf_value.specs.Numbers.{number_in}
use Rattle.pybuf_value.specs.declared.values.Scalar.{Scalar}
use Rattle.pybuf_value.specs.declared.values.Scalar.TheVariants as scalar
use Rattle.pybuf_value.specs.declared.values.Item.{Item}
use Rattle.pybuf_value.specs.declared.values.Item.TheVariants as item
use Rattle.pybuf_value.specs.declared.values.PySlice.{PySlice}

-- a bound of a slice, which may be missing
abbrev pub bound_of : Option ℤ → Scalar
bound_of None = scalar.None
bound_of (Some number) = scalar.Int number

-- the slice `start:stop:step`
abbrev pub slice_of : Option ℤ → Option ℤ → Option ℤ → PySlice
slice_of start stop step = record { start = bound_of start; stop = bound_of stop; step = bound_of step }

-- the numbers that values are; the first value that isn't a number is refused
abbrev pub numbers_in : List Scalar → Result (List ℤ) Fault
numbers_in [] = Ok []
numbers_in (s ∷ rest) = do
  number ← number_in s
  numbers ← numbers_in rest
  Ok (number ∷ numbers)

-- the same, if there are as many values as are asked for
abbrev pub so_many_numbers : ℕ → List Scalar → Result (List ℤ) Fault
so_many_numbers count values = do
  _ ← unless (not (length values == count)) fault.Value
  numbers_in values

-- the number that an item is
abbrev pub number_of_item : Item → Option ℤ
number_of_item (item.One (scalar.Int number)) = Some number
number_of_item _ = None

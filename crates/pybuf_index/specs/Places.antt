-- Where a number points in a sequence of n items: a negative one counts from the end.
use Rattle.std.specs.Prelude.{ℕ, suc, ◌-◌, min, ℤ, pos, negsuc, Option, None, Some, Result, Ok, ok_or, nat_lt, if◌then◌else◌}
use Rattle.pybuf_value.specs.declared.faults.Fault.{Fault}
use Rattle.pybuf_value.specs.declared.faults.Fault.TheVariants as fault
use Rattle.pybuf_value.specs.declared.values.Value.{Value}
use Rattle.pybuf_value.specs.Numbers.{number_of}
use Rattle.pybuf_value.specs.Refusing.{◌>>=◌}

-- the place from 0 to n that is nearest to the number
abbrev pub saturated_place : ℕ → ℤ → ℕ
saturated_place n (pos k) = min k n
saturated_place n (negsuc k) = n - suc k

-- the place of the item that the number names, if there is one
abbrev pub item_place : ℕ → ℤ → Option ℕ
item_place n (pos k) = if nat_lt k n then Some k else None
item_place n (negsuc k) = if nat_lt k n then Some (n - suc k) else None

-- the same, but refused if there is no such item
abbrev pub entry_in : ℕ → ℤ → Result ℕ Fault
entry_in count index = ok_or (item_place count index) fault.Index

-- the place of a bound, which may be absent
abbrev pub bound_in : ℕ → ℕ → Option Value → Result ℕ Fault
bound_in n absent None = Ok absent
bound_in n absent (Some v) = do
  number ← number_of v
  Ok (saturated_place n number)

-- the places of the two bounds of a search; if both are absent, the whole sequence is searched
abbrev pub bounds_in : ℕ → Option Value → Option Value → Result (ℕ × ℕ) Fault
bounds_in n start stop = do
  first ← bound_in n 0 start
  last ← bound_in n n stop
  Ok (first, last)

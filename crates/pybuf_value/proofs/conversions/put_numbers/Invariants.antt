use Rattle.std.proofs.Common.{◌≡◌, drop, take, length}
use Rattle.pybuf_value.specs.Making.{numbers_in}
use Rattle.pybuf_value.proofs.Parts.{bytes_before}
use Rattle.pybuf_value.proofs.conversions.put_numbers.Given as goal

-- The numbers so far and those of the other values are the numbers of all values.
abbrev pub invariant-loop-at : goal.invariant-loop-at
invariant-loop-at l = record {
  told : bytes_before (take l.at l.places) (numbers_in (drop l.at l.values)) ≡ numbers_in l.values;
  all : length l.places ≡ length l.values;
}

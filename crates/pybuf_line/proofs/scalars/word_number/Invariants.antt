use Rattle.std.proofs.Common.{◌≡◌, ◌<◌, ◌^◌, drop}
use Rattle.pybuf_line.specs.Scalars.{number_below}
use Rattle.pybuf_line.proofs.Digits.{number_from}
use Rattle.pybuf_line.proofs.scalars.word_number.Given as goal

-- The number so far and the digits that are left make the whole number. A machine word holds the number.
pub record Read (Value Fits : Type 0) : Type 0 where
  pub value : Value
  pub fits : Fits

abbrev pub invariant-loop-c : goal.invariant-loop-c
invariant-loop-c l = Read (number_below (2 ^ 64) l.text ≡ number_from (2 ^ 64) l.number (drop l.c-index l.text)) (l.number < 2 ^ 64)

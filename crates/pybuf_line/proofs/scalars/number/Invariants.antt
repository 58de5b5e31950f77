use Rattle.std.proofs.Common.{◌≡◌, drop}
use Rattle.pybuf_line.specs.Scalars.{number_below}
use Rattle.pybuf_line.proofs.Digits.{number_from}
use Rattle.pybuf_line.proofs.scalars.number.Given as goal

-- The number so far and the digits that are left make the whole number.
abbrev pub invariant-loop-c : goal.invariant-loop-c
invariant-loop-c l = number_below l.bound l.text ≡ number_from l.bound l.number (drop l.c-index l.text)

use Rattle.std.proofs.Common.{◌≡◌, take}
use Rattle.pybuf_numbers.specs.Numbers.{bytes_of}
use Rattle.pybuf_numbers.proofs.edits.bytes_of.Given as goal

abbrev pub invariant-loop-number : goal.invariant-loop-number
invariant-loop-number l = l.bytes.items ≡ bytes_of l.code (take l.number-index l.numbers)

use Rattle.std.proofs.Common.{◌≡◌, take}
use Rattle.pybuf_numbers.specs.Numbers.{numbers_of}
use Rattle.pybuf_numbers.proofs.reads.numbers.Given as goal

abbrev pub invariant-loop-place : goal.invariant-loop-place
invariant-loop-place l = l.list.items ≡ take l.place (numbers_of l.code l.bytes)

use Rattle.std.specs.Ordering.{int_eq}
use Rattle.pybuf_numbers.specs.Numbers.{numbers_of}
use Rattle.pybuf_numbers.proofs.Searching.{Passed}
use Rattle.pybuf_numbers.proofs.reads.place_of_number.Given as goal

abbrev pub invariant-loop-place : goal.invariant-loop-place
invariant-loop-place l = Passed (int_eq l.number) (numbers_of l.code l.bytes) l.place

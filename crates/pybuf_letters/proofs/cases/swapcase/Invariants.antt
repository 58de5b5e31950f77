use Rattle.std.proofs.Common.{◌≡◌, map, take}
use Rattle.pybuf_letters.specs.Cases.{swapped}
use Rattle.pybuf_letters.proofs.cases.swapcase.Given as goal

abbrev pub invariant-loop-b : goal.invariant-loop-b
invariant-loop-b l = l.made.items ≡ map swapped (take l.b-index l.bytes)

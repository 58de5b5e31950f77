use Rattle.std.proofs.Common.{◌≡◌, length, map, take}
use Rattle.pybuf_memoryview.specs.Keys as spec
use Rattle.pybuf_memoryview.proofs.keys.indices_of.Given as goal

abbrev pub invariant-loop-k : goal.invariant-loop-k
invariant-loop-k l = (take l.k l.indices ≡ map spec.part_number (take l.k l.parts)) × (length l.indices ≡ 64)

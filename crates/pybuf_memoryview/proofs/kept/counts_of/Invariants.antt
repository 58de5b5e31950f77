use Rattle.std.proofs.Common.{◌≡◌, map, take}
use Rattle.pybuf_memoryview.proofs.kept.counts_of.Given as goal

abbrev pub invariant-loop-dim : goal.invariant-loop-dim
invariant-loop-dim l = l.list ≡ map (λ dim. dim.0) (take l.dim-index l.dims)

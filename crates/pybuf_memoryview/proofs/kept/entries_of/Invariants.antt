use Rattle.std.proofs.Common.{◌≡◌, pos, map, take}
use Rattle.pybuf_memoryview.proofs.kept.entries_of.Given as goal

abbrev pub invariant-loop-dim : goal.invariant-loop-dim
invariant-loop-dim l = l.list ≡ map (λ dim. pos dim.0) (take l.dim-index l.dims)

use Rattle.std.proofs.Common.{◌≡◌, ◌++◌, ◌<◌, ◌^◌, ◌∷◌, drop}
use Rattle.pybuf_nd.specs.Merged.{merged_from}
use Rattle.pybuf_nd.proofs.Joining.{extent_of}
use Rattle.pybuf_nd.proofs.merging.merged_from.Given as goal

abbrev pub invariant-loop-dim : goal.invariant-loop-dim
invariant-loop-dim l =
    (l.list ++ merged_from l.last (drop l.dim-index l.rest) ≡ merged_from l.fn.first l.rest)
    × (extent_of (l.last ∷ drop l.dim-index l.rest) < 2 ^ 63)

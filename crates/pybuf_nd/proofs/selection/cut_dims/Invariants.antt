use Rattle.std.proofs.Common.{◌≡◌, ◌++◌, ◌<◌, ℕ, drop, get_or}
use Rattle.pybuf_index.specs.Parts.{SliceParts, IsSaturated}
use Rattle.pybuf_nd.specs.Dims.{cut_dims}
use Rattle.pybuf_nd.proofs.selection.cut_dims.Given as goal

abbrev pub invariant-loop-k : goal.invariant-loop-k
invariant-loop-k l =
    (l.cut ++ cut_dims (drop l.k l.dims) (drop l.k l.slices) ≡ cut_dims l.dims l.slices)
    × ((j : ℕ) (parts : SliceParts) → j < l.k → IsSaturated (get_or l.slices j parts))

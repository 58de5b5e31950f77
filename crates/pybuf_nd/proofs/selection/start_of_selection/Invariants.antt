use Rattle.std.proofs.Common.{◌≡◌, ◌++◌, length, take, drop}
use Rattle.pybuf_desc.specs.Descriptor.{shape_of}
use Rattle.pybuf_nd.specs.Dims.{firsts_of}
use Rattle.pybuf_nd.specs.Selections.{has_zero, counts_of, picks_of_each}
use Rattle.pybuf_nd.proofs.selection.start_of_selection.Given as goal

abbrev pub invariant-loop-k : goal.invariant-loop-k
invariant-loop-k l =
    (take l.k l.firsts ++ firsts_of (drop l.k (picks_of_each (shape_of l.dims) l.slices)) ≡ firsts_of (picks_of_each (shape_of l.dims) l.slices))
    × (has_zero (counts_of (drop l.k (picks_of_each (shape_of l.dims) l.slices))) ≡ has_zero (counts_of (picks_of_each (shape_of l.dims) l.slices)))
    × (length l.firsts ≡ 64)

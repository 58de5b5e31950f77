use Rattle.std.proofs.Common.{◌≡◌, ◌<◌, ◌++◌, List, length}
use Rattle.std.specs.Prelude.{All}
use Rattle.std.specs.List.{AllZip}
use Rattle.pybuf_slice.specs.Reads.{elements_at}
use Rattle.pybuf_slice.proofs.slices.gather.Given as goal

abbrev pub invariant-loop-index : goal.invariant-loop-index
invariant-loop-index g l =
    ((read : List g.row.T.Denot) × (read ++ elements_at l.items l.indexes ≡ elements_at l.items l.fn.indexes) × AllZip g.T.Twin.same read l.list.items)
    × All (λ i. i < length l.items) l.indexes

abbrev pub decreases-loop-index : goal.decreases-loop-index
decreases-loop-index g l = length l.indexes

use Rattle.std.proofs.Common.{◌≡◌, ◌<◌, length}
use Rattle.std.specs.Prelude.{All}
use Rattle.std.specs.Vec.Iter.{into_iter_items, into_iter_len}
use Rattle.pybuf_slice.specs.Edits.{set_at}
use Rattle.pybuf_slice.proofs.slices.scatter.Given as goal

abbrev pub invariant-loop-index : goal.invariant-loop-index
invariant-loop-index g l =
    (set_at l.places l.indexes (into_iter_items l.rest) ≡ set_at l.fn.places l.fn.indexes l.fn.others.items)
    × (length l.indexes ≡ length (into_iter_items l.rest))
    × (into_iter_len l.rest ≡ length (into_iter_items l.rest))
    × All (λ i. i < length l.places) l.indexes

abbrev pub decreases-loop-index : goal.decreases-loop-index
decreases-loop-index g l = length l.indexes

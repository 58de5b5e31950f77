use Rattle.std.proofs.Common.{◌≡◌, ◌<◌, ◌++◌, length}
use Rattle.std.specs.Prelude.{All}
use Rattle.std.specs.List.{flat_map}
use Rattle.pybuf_slice.specs.Reads.{elements_at}
use Rattle.pybuf_desc.specs.Segments.{bytes_of}
use Rattle.pybuf_memoryview.proofs.content.gather.Given as goal

abbrev pub invariant-loop-line : goal.invariant-loop-line
invariant-loop-line l =
    (l.gathered.items ++ elements_at l.bytes (flat_map bytes_of l.ranges) ≡ elements_at l.bytes (flat_map bytes_of l.fn.ranges))
    × All (λ place. place < length l.bytes) (flat_map bytes_of l.ranges)

abbrev pub decreases-loop-line : goal.decreases-loop-line
decreases-loop-line l = length l.ranges

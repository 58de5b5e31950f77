use Rattle.std.proofs.Common.{◌≡◌, ◌+◌, ◌<◌, length, drop}
use Rattle.std.specs.Prelude.{All}
use Rattle.std.specs.List.{flat_map}
use Rattle.pybuf_desc.specs.Segments.{bytes_of}
use Rattle.pybuf_verbs_writes.specs.LaidBytes.{put_at}
use Rattle.pybuf_verbs_writes.proofs.laid.lay_ranges.Given as goal

abbrev pub invariant-loop-line : goal.invariant-loop-line
invariant-loop-line l = record {
  laid : put_at l.bytes (flat_map bytes_of l.ranges) (drop l.from l.content) ≡ put_at l.fn.bytes (flat_map bytes_of l.fn.ranges) l.content;
  inside : All (λ place. place < length l.bytes) (flat_map bytes_of l.ranges);
  as_many : l.from + length (flat_map bytes_of l.ranges) ≡ length l.content;
}

abbrev pub decreases-loop-line : goal.decreases-loop-line
decreases-loop-line l = length l.ranges

use Rattle.std.proofs.Common.{◌≡◌, ◌≤◌, ◌+◌, ◌++◌, length}
use Rattle.std.specs.Prelude.{All, vec_len, vec_capacity}
use Rattle.std.specs.List.{flat_map}
use Rattle.pybuf_desc.specs.Segments.{bytes_in}
use Rattle.pybuf_buffer.proofs.append.append_ranges.Given as goal

abbrev pub invariant-loop-line : goal.invariant-loop-line
invariant-loop-line g l = record {
  inside : All (λ range. range.end ≤ length l.bytes) l.ranges;
  room : vec_len l.buf + length (flat_map (bytes_in l.bytes) l.ranges) ≤ vec_capacity l.buf;
  bytes : l.buf.items ++ flat_map (bytes_in l.bytes) l.ranges ≡ l.fn.buf.items ++ flat_map (bytes_in l.bytes) l.fn.ranges;
  steps : l.steps + length l.ranges ≡ l.fn.steps + length l.fn.ranges;
}

abbrev pub decreases-loop-line : goal.decreases-loop-line
decreases-loop-line g l = length l.ranges

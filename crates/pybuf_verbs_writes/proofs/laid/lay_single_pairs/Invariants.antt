use Rattle.std.proofs.Common.{◌≡◌, ◌-◌, ◌<◌, length, map}
use Rattle.std.specs.Prelude.{All}
use Rattle.std.specs.List.{flat_map}
use Rattle.pybuf_slice.specs.Reads.{elements_at}
use Rattle.pybuf_desc.specs.Segments.{bytes_of}
use Rattle.pybuf_verbs_writes.specs.LaidBytes.{put_at}
use Rattle.pybuf_verbs_writes.proofs.laid.lay_single_pairs.Given as goal

abbrev pub invariant-loop-range : goal.invariant-loop-range
invariant-loop-range l = record {
  laid : put_at l.bytes (flat_map bytes_of (map (λ pair. pair.0) l.pairs)) (elements_at l.source (flat_map bytes_of (map (λ pair. pair.1) l.pairs)))
      ≡ put_at l.fn.bytes (flat_map bytes_of (map (λ pair. pair.0) l.fn.pairs)) (elements_at l.source (flat_map bytes_of (map (λ pair. pair.1) l.fn.pairs)));
  inside : All (λ place. place < length l.bytes) (flat_map bytes_of (map (λ pair. pair.0) l.pairs));
  source_inside : All (λ place. place < length l.source) (flat_map bytes_of (map (λ pair. pair.1) l.pairs));
  alike : All (λ pair. pair.0.end - pair.0.start ≡ pair.1.end - pair.1.start) l.pairs;
}

abbrev pub decreases-loop-range : goal.decreases-loop-range
decreases-loop-range l = length l.pairs

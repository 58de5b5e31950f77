use Rattle.std.proofs.Common.{◌≡◌, ℕ, ◌<◌, ◌≤◌, drop, length, slice_index}
use Rattle.pybuf_shaping.specs.Tables.{counterpart}
use Rattle.pybuf_shaping.proofs.tables.write_counterparts.Given as goal

abbrev pub invariant-loop-place : goal.invariant-loop-place
invariant-loop-place l = record {
  inside : l.place ≤ length l.from;
  full : length l.table ≡ 256;
  each : (b : ℕ) → b < 256 → slice_index l.table b ≡ counterpart (drop l.place l.from) (drop l.place l.to) b;
}

abbrev pub decreases-loop-place : goal.decreases-loop-place
decreases-loop-place l = l.place

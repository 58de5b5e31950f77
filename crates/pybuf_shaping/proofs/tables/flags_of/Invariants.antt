use Rattle.std.proofs.Common.{◌≡◌, ℕ, ◌<◌, take, length, slice_index_or, false}
use Rattle.pybuf_shaping.specs.Tables.{is_among}
use Rattle.pybuf_shaping.proofs.tables.flags_of.Given as goal

abbrev pub invariant-loop-byte : goal.invariant-loop-byte
invariant-loop-byte l = record {
  full : length l.flags ≡ 256;
  each : (b : ℕ) → b < 256 → slice_index_or l.flags b false ≡ is_among (take l.byte-index l.bytes) b;
}

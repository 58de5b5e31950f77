use Rattle.std.proofs.Common.{◌≡◌, ◌+◌, ◌*◌, ◌^◌, ◌≤◌, drop, length}
use Rattle.pybuf_shaping.specs.Tabs.{expanded_from}
use Rattle.pybuf_shaping.proofs.tabs.expanded_length.Given as goal

abbrev pub invariant-loop-byte : goal.invariant-loop-byte
invariant-loop-byte l = record {
  whole : l.total + length (expanded_from l.size l.column (drop l.byte-index l.bytes)) ≡ length (expanded_from l.size 0 l.bytes);
  bound : l.total ≤ 2 ^ 63 * l.byte-index;
  behind : l.column ≤ l.total;
}

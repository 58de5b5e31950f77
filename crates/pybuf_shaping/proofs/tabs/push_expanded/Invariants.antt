use Rattle.std.proofs.Common.{◌≡◌, ◌++◌, ◌*◌, ◌^◌, ◌≤◌, drop}
use Rattle.pybuf_shaping.specs.Tabs.{expanded_from}
use Rattle.pybuf_shaping.proofs.tabs.push_expanded.Given as goal

abbrev pub invariant-loop-byte : goal.invariant-loop-byte
invariant-loop-byte l = record {
  whole : l.out.items ++ expanded_from l.size l.column (drop l.byte-index l.bytes) ≡ l.initial.out.items ++ expanded_from l.size 0 l.bytes;
  bound : l.column ≤ 2 ^ 63 * l.byte-index;
}

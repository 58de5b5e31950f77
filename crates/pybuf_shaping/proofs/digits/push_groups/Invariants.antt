use Rattle.std.proofs.Common.{◌≡◌, ◌+◌, ◌-◌, ◌*◌, ◌++◌, length}
use Rattle.std.specs.List.{flat_map}
use Rattle.pybuf_shaping.specs.Digits.{behind, groups_of}
use Rattle.pybuf_shaping.proofs.digits.push_groups.Given as goal

abbrev pub invariant-loop-group : goal.invariant-loop-group
invariant-loop-group l = record {
  text : l.out.items ++ flat_map (behind l.separator) (groups_of l.size (l.count - l._group) l.rest) ≡ l.initial.out.items ++ flat_map (behind l.separator) (groups_of l.size l.count l.bytes);
  room : length l.out.items + (l.count - l._group) + 2 * length l.rest ≡ length l.initial.out.items + l.count + 2 * length l.bytes;
}

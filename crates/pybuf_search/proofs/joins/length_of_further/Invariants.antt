use Rattle.std.proofs.Common.{◌≡◌, ◌*◌, ◌^◌, ◌≤◌, length, take, map}
use Rattle.pybuf_search.specs.Joins.{further}
use Rattle.pybuf_search.proofs.joins.length_of_further.Given as goal

abbrev pub invariant-loop-part : goal.invariant-loop-part
invariant-loop-part g l = (l.total ≡ length (further l.separator (map g.T.AnyStrWrapper.bytes (take l.part-index l.parts)))) × (l.total ≤ 2 ^ 64 * l.part-index)

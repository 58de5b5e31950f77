use Rattle.std.proofs.Common.{◌≡◌, ◌++◌, take, map}
use Rattle.pybuf_search.specs.Joins.{further}
use Rattle.pybuf_search.proofs.joins.push_further.Given as goal

abbrev pub invariant-loop-part : goal.invariant-loop-part
invariant-loop-part g l = l.whole.items ≡ l.initial.whole.items ++ further l.separator (map g.T.AnyStrWrapper.bytes (take l.part-index l.parts))

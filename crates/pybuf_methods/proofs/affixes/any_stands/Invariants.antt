use Rattle.std.proofs.Common.{◌≡◌, drop}
use Rattle.pybuf_search.specs.Affixes.{any_of}
use Rattle.pybuf_methods.specs.Affixes.{stands_at}
use Rattle.pybuf_methods.proofs.affixes.any_stands.Given as goal

abbrev pub invariant-loop-part : goal.invariant-loop-part
invariant-loop-part g l = any_of (stands_at l.end l.bytes) (g.N.Contents.pairs l.names) (drop l.part-index l.parts) ≡ any_of (stands_at l.end l.bytes) (g.N.Contents.pairs l.names) l.parts

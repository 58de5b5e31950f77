use Rattle.std.proofs.Common.{◌≡◌, drop, map}
use Rattle.pybuf_methods.specs.Given.{each_in}
use Rattle.pybuf_value.specs.Lent.{lent_bytes}
use Rattle.pybuf_methods.proofs.Parts.{lists_before}
use Rattle.pybuf_methods.proofs.join.each_in.Given as goal

abbrev pub invariant-loop-part : goal.invariant-loop-part
invariant-loop-part g l = lists_before (map lent_bytes l.lists.items) (each_in (g.N.Contents.pairs l.names) (drop l.part-index l.parts)) ≡ each_in (g.N.Contents.pairs l.names) l.parts

use Rattle.pybuf_struct.proofs.Walks.{Walks}
use Rattle.pybuf_struct.proofs.unpack.push_all.Given as goal

abbrev pub invariant-loop-code : goal.invariant-loop-code
invariant-loop-code l = Walks l.order l.bytes l.codes l.at l.code-index l.initial.out.items l.out.items

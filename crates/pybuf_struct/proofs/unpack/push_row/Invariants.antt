use Rattle.pybuf_struct.proofs.Rows.{Reads}
use Rattle.pybuf_struct.proofs.unpack.push_row.Given as goal

abbrev pub invariant-loop-done : goal.invariant-loop-done
invariant-loop-done l = Reads l.order l.bytes l.code l.size l.offset l.count l.at l._done l.initial.out.items l.out.items

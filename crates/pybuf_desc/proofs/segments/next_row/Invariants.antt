use Rattle.pybuf_desc.proofs.Rows.{Carried}
use Rattle.pybuf_desc.proofs.segments.next_row.Given as goal

abbrev pub decreases-loop-k : goal.decreases-loop-k
decreases-loop-k l = l.k

abbrev pub invariant-loop-k : goal.invariant-loop-k
invariant-loop-k l = Carried l.rows l.fn.indices l.fn.place l.indices l.place l.k

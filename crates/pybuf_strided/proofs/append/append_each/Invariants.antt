use Rattle.std.proofs.Common.{◌≡◌, ◌+◌, ◌*◌, ◌≤◌, ◌++◌, vec_len, vec_capacity}
use Rattle.pybuf_strided.specs.Apart.{place_of, pieces_at}
use Rattle.pybuf_strided.proofs.append.append_each.Given as goal

abbrev pub invariant-loop-k : goal.invariant-loop-k
invariant-loop-k l = record {
  items : l.out.items ≡ l.fn.out.items ++ pieces_at l.source (place_of l.from.falls l.from.start l.from.step) l.size l.k;
  len : vec_len l.out ≡ vec_len l.fn.out + l.size * l.k;
  capacity : vec_capacity l.fn.out ≤ vec_capacity l.out;
}

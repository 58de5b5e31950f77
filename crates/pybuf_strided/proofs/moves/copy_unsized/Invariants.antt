use Rattle.std.proofs.Common.{◌≡◌, length, not}
use Rattle.std.specs.Prelude.{eqb}
use Rattle.pybuf_strided.specs.Apart.{place_of, moved_at}
use Rattle.pybuf_strided.proofs.moves.copy_unsized.Given as goal

abbrev pub invariant-loop-k : goal.invariant-loop-k
invariant-loop-k g l = record {
  moved : l.bytes ≡ moved_at l.fn.bytes (place_of (not (eqb g.row.TO_FALLS 0)) l.to l.to_step) l.source (place_of (not (eqb g.row.FROM_FALLS 0)) l.from l.from_step) l.size l.k;
  long : length l.bytes ≡ length l.fn.bytes;
}

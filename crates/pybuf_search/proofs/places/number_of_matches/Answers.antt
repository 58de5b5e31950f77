use Rattle.std.proofs.Common.{refl, arith}
use Rattle.pybuf_search.proofs.OneByte.{counted_by_byte}
use Rattle.pybuf_search.proofs.places.number_of_matches.Goals as goal

pub returns-then-needle-eq1 : goal.returns-then-needle-eq1
returns-then-needle-eq1 c = counted_by_byte c.args.bytes.now c.args.needle.now _ _ (omega arith) refl c.count_byte.ensures

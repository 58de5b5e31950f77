use Rattle.std.proofs.Common.{◌==◌, arith}
use Rattle.std.proofs.lemmas.List.Sums.{count_by-le-length}
use Rattle.pybuf_lanes.proofs.Counts.{one_chunk_less}
use Rattle.pybuf_lanes.proofs.counting.count_byte.Goals as goal

pub loop-lanes-preserved : goal.loop-lanes-preserved
loop-lanes-preserved c =
    one_chunk_less (λ x. x == c.args.byte) 16 _ _ _ _ _ _ c.lanes_with-count.ensures c.in-Some.ensures.cases.0 c.in-Some.ensures.cases.1 c.loop-lanes.invariant

pub overflow_add-count : goal.overflow_add-count
overflow_add-count c =
    let most = count_by-le-length (λ x. x == c.args.byte) c.args.bytes.now in
    let more =
    one_chunk_less (λ x. x == c.args.byte) 16 _ _ _ _ _ _ c.lanes_with-count.ensures c.in-Some.ensures.cases.0 c.in-Some.ensures.cases.1 c.loop-lanes.invariant in
    record { fits = omega (arith, most, more) }

use Rattle.std.proofs.Common.{List, [], ◌∷◌, ◌++◌, ap, ◌∙◌}
use Rattle.pybuf_array.specs.declared.operations.ArrayReply.{ArrayReply}
use Rattle.pybuf_array.proofs.Runs.{one_more}
use Rattle.pybuf_array.proofs.array.PyArray.run_onto.Goals as goal

pub loop-op-preserved : goal.loop-op-preserved
loop-op-preserved c =
    one_more _ _ _ c.args.ops.now c.loop-op.op-index c.op-item.result c.in_ok-reply.reply _ _ _
    c.loop-op.invariant c.loop-op-test.true c.op-item.is c.in_ok-reply.ensures.ok
    (c.push_reserved.ensures ∙ ap (λ (rs : List ArrayReply). rs ++ c.in_ok-reply.reply ∷ []) c.in_ok-reserve.ensures.items)

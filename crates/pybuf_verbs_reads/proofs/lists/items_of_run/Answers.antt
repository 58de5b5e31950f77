use Rattle.pybuf_verbs_reads.proofs.ItemRuns.{run_step_at}
use Rattle.pybuf_verbs_reads.proofs.lists.items_of_run.Goals as goal

pub loop-left-preserved : goal.loop-left-preserved
loop-left-preserved c =
    run_step_at c.args.reader.now c.args.size c.loop-left.left c.loop-left.rest.now c.split_at.result.0.now c.split_at.result.1.now c.loop-left.items.items c.push.new.self.items _ c.in_ok-item.item
    c.loop-left-test.true c.split_at.ensures.front c.split_at.ensures.back c.in_ok-item.ensures c.in_ok-push.ensures.items c.loop-left.invariant.0 c.loop-left.invariant.1

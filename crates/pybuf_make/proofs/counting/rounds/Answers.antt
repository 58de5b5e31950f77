use Rattle.std.proofs.Common.{arith}
use Rattle.pybuf_make.proofs.Runs.{one_more}
use Rattle.pybuf_make.proofs.counting.rounds.Goals as goal

pub running-preserved : goal.running-preserved
running-preserved c = record {
  ran = one_more c.args.run.now c.running.run c.round.new.run c.running.k c.running.invariant.ran c.in_ok-round.ensures.ran;
  room = omega (arith, c.in_ok-round.ensures.room, c.running.invariant.room);
  within = c.in_ok-round.ensures.within;
}

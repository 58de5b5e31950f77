use Rattle.std.proofs.Common.{◌≡◌}
use Rattle.pybuf_share.specs.Working.{post_of}
use Rattle.pybuf_share.proofs.worker.Worker.carry_out_here.Given as goal

abbrev pub invariant-loop : goal.invariant-loop
invariant-loop g l = post_of l.self ≡ post_of l.initial.self

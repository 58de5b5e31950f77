use Rattle.std.proofs.Common.{arith}
use Rattle.golden_nd.proofs.Sorted.{their_places}
use Rattle.golden_nd.proofs.orders.are_their_places.Goals as goal

pub returns : goal.returns
returns c = λ yes. their_places c.args.numbers.now (λ k below. c.loop-k.invariant k (omega (arith, below, c.loop-k-test.false, c.loop-k.auto.k-end)))

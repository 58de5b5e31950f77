use Rattle.std.proofs.Common.{ap}
use Rattle.pybuf_cli.specs.Failing.{Failing}
use Rattle.pybuf_cli.proofs.Taking.{counted}
use Rattle.pybuf_cli.proofs.failing.ListSourceSource.take.Goals as goal

pub returns-then-next_fails-clause-counts : goal.returns-then-next_fails-clause-counts
returns-then-next_fails-clause-counts c =
    counted _ _ _ (ap (λ (d : Failing). d.faults) c.self.view_is) c.next_fails.ensures.later c.next_fails.ensures.bounded

pub returns-clause-counts : goal.returns-clause-counts
returns-clause-counts c =
    counted _ _ _ (ap (λ (d : Failing). d.faults) c.self.view_is) c.next_fails.ensures.later c.next_fails.ensures.bounded

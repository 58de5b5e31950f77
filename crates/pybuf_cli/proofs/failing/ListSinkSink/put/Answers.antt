use Rattle.std.proofs.Common.{refl, ◌∙◌, ap}
use Rattle.pybuf_cli.specs.Failing.{Failing, fails_next}
use Rattle.pybuf_cli.proofs.Taking.{counted, moved_some, found_no_memory}
use Rattle.pybuf_cli.proofs.failing.ListSinkSink.put.Goals as goal

pub returns-then-next_fails-clause-counts : goal.returns-then-next_fails-clause-counts
returns-then-next_fails-clause-counts c =
    counted _ _ _ (ap (λ (d : Failing). d.faults) c.self.view_is) c.next_fails.ensures.later c.next_fails.ensures.bounded

pub returns-clause-counts : goal.returns-clause-counts
returns-clause-counts c =
    counted _ _ _ (ap (λ (d : Failing). d.faults) c.self.view_is) c.next_fails.ensures.later c.next_fails.ensures.bounded

pub returns-in_default-clause-counts : goal.returns-in_default-clause-counts
returns-in_default-clause-counts c =
    counted _ _ _ (ap (λ (d : Failing). d.faults) c.self.view_is) c.next_fails.ensures.later c.next_fails.ensures.bounded

pub returns-clause-fails : goal.returns-clause-fails
returns-clause-fails c =
    moved_some _ _ _ c.min-count.result refl (c.next_fails.ensures.answer ∙ ap fails_next c.self.view_is) c.if-next_fails.false

pub returns-in_default-clause-fails : goal.returns-in_default-clause-fails
returns-in_default-clause-fails c =
    found_no_memory _ _ _ refl (c.next_fails.ensures.answer ∙ ap fails_next c.self.view_is) c.if-next_fails.false

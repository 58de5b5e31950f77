use Rattle.example_users.proofs.WorldLemmas.{made_by_step, handles_kept, refusal_kept}
use Rattle.example_users.proofs.interpreter.Interpreter.step.Goals as goal

pub invariant_of-self : goal.invariant_of-self
invariant_of-self c = made_by_step c.self.inside.world _ c.command.result c.step.result c.self.invariant c.step.ensures.ok c.step.ensures.err

pub returns-clause-refused : goal.returns-clause-refused
returns-clause-refused c = rw (c.self.view_is) at (refusal_kept c.refusals_change_nothing.ensures c.self.inside.world _ c.command.result c.step.result c.step.ensures.ok)

pub returns-clause-named : goal.returns-clause-named
returns-clause-named c = rw (c.self.view_is) at (handles_kept c.handles_stay.ensures c.self.inside.world _ c.command.result c.step.result c.step.ensures.ok)

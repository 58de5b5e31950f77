use Rattle.std.proofs.Common.{◌≡◌, ℕ, List, subst, sym, ◌∙◌}
use Rattle.std.specs.Prelude.{IfOk, Result}
use Rattle.pybuf_value.specs.declared.faults.Fault.{Fault}
use Rattle.pybuf_value.specs.Halting.{outcome_of}
use Rattle.pybuf_world.specs.Tables.{world_of}
use Rattle.pybuf_world.proofs.Making.{bytes_of_none}
use Rattle.pybuf_world.proofs.tables.Tables.bytes_of.Goals as goal

pub returns-in-None : goal.returns-in-None
returns-in-None c =
    subst (λ (x : Result (List ℕ) Fault). IfOk c.bytes_without_handles.result (λ outcome. outcome ≡ outcome_of x))
    (sym (bytes_of_none (world_of c.args.self.now) c.args.options.now (sym c.handle_alone.ensures ∙ c.in-None.is))) c.bytes_without_handles.ensures

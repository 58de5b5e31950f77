use Rattle.std.proofs.Common.{Some, ap, sym, ◌∙◌}
use Rattle.std.specs.Prelude.{Option}
use Rattle.pybuf_state.specs.Loans.{given_loan}
use Rattle.pybuf_world.specs.declared.named.Named.{Named}
use Rattle.pybuf_world.specs.World.{World, loan_of_name}
use Rattle.pybuf_world.proofs.others.OthersNames.meaning.Goals as goal

pub returns-in-Some-clause-meant : goal.returns-in-Some-clause-meant
returns-in-Some-clause-meant c =
    let w : World = record { exporters = c.args.self.now.exporters.now; handles = c.args.self.now.handles.now } in
    c.meaning_of_name.ensures.meant c.args.self.now.handles.now
    ∙ ap (λ (o : Option Named). given_loan (Some (loan_of_name w c.args.self.now.stepping o))) (sym c.in-Some.is ∙ c.name_of.ensures)

pub returns-in-None-clause-meant : goal.returns-in-None-clause-meant
returns-in-None-clause-meant c =
    let w : World = record { exporters = c.args.self.now.exporters.now; handles = c.args.self.now.handles.now } in
    ap (λ (o : Option Named). given_loan (Some (loan_of_name w c.args.self.now.stepping o))) (sym c.in-None.is ∙ c.name_of.ensures)

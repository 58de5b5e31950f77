use Rattle.std.proofs.Common.{Some, ap, sym, ◌∙◌}
use Rattle.std.specs.Prelude.{Option}
use Rattle.pybuf_command.specs.declared.loans.Loan.{Loan}
use Rattle.pybuf_state.specs.Exporter.{Exporter}
use Rattle.pybuf_state.specs.Loans.{given_loan}
use Rattle.pybuf_world.specs.World.{World, loan_of_other}
use Rattle.pybuf_world.proofs.Among.{another_lends}
use Rattle.pybuf_world.proofs.others.meaning_of_name.Goals as goal

pub returns-clause-meant : goal.returns-clause-meant
returns-clause-meant c = λ handles.
    let w : World = record { exporters = c.args.exporters.now; handles = handles } in
    c.meaning_of_other.ensures.meant
    ∙ ap (λ (o : Option Exporter). given_loan (Some (loan_of_other o c.subject-2.result))) c.lender_of-lender.ensures
    ∙ ap (λ (l : Loan). given_loan (Some l)) (sym (another_lends w c.args.stepping c.args.named c.exporter-2.result c.exporter.result c.subject-2.result c.exporter.ensures c.if-exporter-stepping.false c.exporter-2.ensures c.subject-2.ensures))

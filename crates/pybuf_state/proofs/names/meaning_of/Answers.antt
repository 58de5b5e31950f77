use Rattle.std.proofs.Common.{rules, ◌≡◌}
use Rattle.std.specs.Prelude.{Option, Some}
use Rattle.std.specs.Option.{option_copied}
use Rattle.pybuf_command.specs.declared.loans.Loan.{Loan}
use Rattle.pybuf_command.specs.declared.loans.Loan.TheVariants as loan
use Rattle.pybuf_state.proofs.names.meaning_of.Goals as goal

abbrev some_loan : Loan → Option Loan
some_loan l = Some l

-- a snap that fits is sound
pub returns-in-Some-Other-clause-sound : goal.returns-in-Some-Other-clause-sound
returns-in-Some-Other-clause-sound c = λ fit.
    let is : option_copied c.args.loan ≡ some_loan (loan.Other c.in-Some-Other.snap) = search rules in
    fit (loan.Other c.in-Some-Other.snap) is

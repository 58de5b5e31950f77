use Rattle.std.proofs.Common.{◌≡◌, drop}
use Rattle.pybuf_command.specs.Loans.{loan_of}
use Rattle.pybuf_command.proofs.handles.loan_of.Given as goal

abbrev pub invariant-loop-pair : goal.invariant-loop-pair
invariant-loop-pair l = loan_of (drop l.pair-index l.loans) l.handle ≡ loan_of l.loans l.handle

use Rattle.std.proofs.Common.{◌≡◌, take}
use Rattle.pybuf_command.proofs.loans.LoanListTwin.copy.Given as goal

abbrev pub invariant-loop-pair : goal.invariant-loop-pair
invariant-loop-pair l = l.loans.items ≡ take l.pair-index l.self

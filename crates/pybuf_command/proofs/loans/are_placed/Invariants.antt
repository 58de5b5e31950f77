use Rattle.std.proofs.Common.{◌≡◌, drop}
use Rattle.pybuf_command.specs.Loans.{are_placed_from}
use Rattle.pybuf_command.proofs.loans.are_placed.Given as goal

abbrev pub invariant-loop-at : goal.invariant-loop-at
invariant-loop-at l = are_placed_from l.at (drop l.at l.loans) ≡ are_placed_from 0 l.loans

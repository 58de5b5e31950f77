-- What is lent for the handles of a command.
use Rattle.std.specs.Prelude.{ℕ, suc, Bool, true, ◌&&◌, ◌==◌, nat_eq, List, [], ◌∷◌, Option, Some, None, if◌then◌else◌}
use Rattle.std.specs.Ordering.{on, eq_of_both}
use Rattle.pybuf_command.specs.declared.loans.Loan.{Loan}
use Rattle.pybuf_command.specs.contracts.loans.LoanPartialEq.TheImpl as loan_eq

-- the loan of the first pair with this handle
abbrev pub loan_of : List (ℕ × Loan) → ℕ → Option Loan
loan_of [] h = None
loan_of (pair ∷ pairs) h = if pair.0 == h then Some pair.1 else loan_of pairs h

-- whether each handle is its pair's place in the list, if the first place has this number
abbrev pub are_placed_from : ℕ → List (ℕ × Loan) → Bool
are_placed_from n [] = true
are_placed_from n (pair ∷ pairs) = pair.0 == n && are_placed_from (suc n) pairs

-- Rust's `==` on two pairs of a handle and what it names
abbrev pub equal_pairs : ℕ × Loan → ℕ × Loan → Bool
equal_pairs = eq_of_both (on (λ p. p.0) nat_eq) (on (λ p. p.1) loan_eq.eq-value.it)

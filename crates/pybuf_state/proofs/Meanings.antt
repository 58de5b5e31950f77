-- What a handle means names what stands there.
use Rattle.std.proofs.Common.{◌≡◌, ℕ, List, [], ◌∷◌, Bool, true, false, ap, sym, ◌∙◌}
use Rattle.std.specs.Prelude.{◌==◌, Option, Some, if◌then◌else◌}
use Rattle.std.specs.Option.{ForSome}
use Rattle.pybuf_lemmas.proofs.Booleans.{both_of}
use Rattle.pybuf_command.specs.declared.loans.Loan.{Loan}
use Rattle.pybuf_state.specs.Fits.{fits, all_fit}
use Rattle.pybuf_command.specs.Loans.{loan_of}

-- ---- what is found among loans that fit fits

found_fits : (b : Bool) (l : Loan) (o : Option Loan) → fits l ≡ true → ForSome o (λ (x : Loan). fits x ≡ true) → ForSome (if b then Some l else o) (λ (x : Loan). fits x ≡ true)
found_fits true l o first rest = λ x is. let same : l ≡ x = cc in ap fits (sym same) ∙ first
found_fits false l o first rest = rest

pub loan_fits : (loans : List (ℕ × Loan)) (h : ℕ) → all_fit loans ≡ true → ForSome (loan_of loans h) (λ (l : Loan). fits l ≡ true)
loan_fits [] h fit = λ x is. absurd (cc)
loan_fits (pair ∷ loans) h fit =
    let parts = both_of (fits pair.1) (all_fit loans) fit in
    found_fits (pair.0 == h) pair.1 (loan_of loans h) parts.0 (loan_fits loans h parts.1)

-- Which loans fit. A loan says what a handle stands for. It fits if it holds no snap, or a snap that fits.
use Rattle.std.specs.Prelude.{◌≡◌, ℕ, Bool, true, List, IfSome}
use Rattle.std.specs.List.{list_all}
use Rattle.pybuf_command.specs.declared.loans.Loan.{Loan}
use Rattle.pybuf_command.specs.declared.loans.Loan.TheVariants as loan
use Rattle.pybuf_command.specs.declared.kinds.Subject.{Subject}
use Rattle.pybuf_memoryview.specs.Fits.{fits_snap}
use Rattle.pybuf_state.specs.Exporter.{Exporter}
use Rattle.pybuf_state.specs.Snaps.{snap_of_subject}
use Rattle.pybuf_state.specs.Sound.{IsSoundExporter}

abbrev pub fits : Loan → Bool
fits (loan.Other snap) = fits_snap snap
fits _ = true

abbrev pub all_fit : List (ℕ × Loan) → Bool
all_fit loans = list_all (λ pair. fits pair.1) loans

-- all of the loans fit
abbrev pub LoansFit : List (ℕ × Loan) → Type 0
LoansFit loans = all_fit loans ≡ true

-- the snap that a sound exporter is lent as fits, and so do those of its views and iterators
abbrev pub SubjectsFit : Type 0
SubjectsFit = (e : Exporter) (s : Subject) → IsSoundExporter e → IfSome (snap_of_subject e s) (λ snap. fits_snap snap ≡ true)

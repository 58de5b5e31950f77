-- Bytes that are lent to a command as the loan for one more handle.
use Rattle.std.proofs.Common.{◌≡◌, ◌⊎◌, inl, inr, ℕ, Bool, true, false, List, [], ◌∷◌, ◌++◌, Option, Some, None, Result, Ok, Err, refl, ap, ap₂, sym, ◌∙◌, subst}
use Rattle.std.specs.Prelude.{◌≢◌, ◌&&◌, ◌==◌, if◌then◌else◌, OnOk}
use Rattle.std.proofs.lemmas.Bool.{eq-eqb}
use Rattle.std.proofs.lemmas.Bool.Decides.{eqb_tells}
use Rattle.std.proofs.lemmas.List.Elements.{All-nil}
use Rattle.std.proofs.lemmas.List.Folds.{list_all-append}
use Rattle.std.proofs.lemmas.Option.{none-some}
use Rattle.pybuf_command.specs.declared.commands.LocalCommand.{LocalCommand}
use Rattle.pybuf_command.specs.declared.kinds.ExporterKind.TheVariants as exporter_kind
use Rattle.pybuf_command.specs.declared.kinds.Subject.TheVariants as subject
use Rattle.pybuf_command.specs.declared.loans.Loan.{Loan}
use Rattle.pybuf_command.specs.declared.loans.Loan.TheVariants as loan
use Rattle.pybuf_command.specs.Loans.{loan_of}
use Rattle.pybuf_state.specs.Exporter.{new_exporter}
use Rattle.pybuf_state.specs.Fits.{fits, all_fit, SubjectsFit}
use Rattle.pybuf_state.specs.Sound.{IsSoundView}
use Rattle.pybuf_share.specs.Sessions.{Asker, IsAnswered}
use Rattle.pybuf_share.specs.Carrying.{snap_of_bytes, with_bytes, AreLent, HasTaken}

-- What an exporter of kind bytes lends fits.
bytes_fit : SubjectsFit → (bytes : List ℕ) → fits (loan.Other (snap_of_bytes bytes)) ≡ true
bytes_fit fit bytes = fit (new_exporter exporter_kind.Bytes bytes) subject.Own (record { views = All-nil (IsSoundView exporter_kind.Bytes bytes) })

-- So loans that fit still fit after it is added.
pub more_fit : SubjectsFit → (loans : List (ℕ × Loan)) (handle : ℕ) (bytes : List ℕ) → all_fit loans ≡ true → all_fit (loans ++ (handle, loan.Other (snap_of_bytes bytes)) ∷ []) ≡ true
more_fit fit loans handle bytes is =
    let one = (handle, loan.Other (snap_of_bytes bytes)) ∷ [] in
    list_all-append (λ (pair : ℕ × Loan). fits pair.1) loans one
    ∙ ap₂ (λ a b. a && b) is (ap (λ (b : Bool). b && true) (bytes_fit fit bytes))

-- A pair behind the others is found if none of these is.
found_by : (b : Bool) (first : Loan) (rest more : Option Loan) (l : Loan) → (if b then Some first else rest) ≡ None → (rest ≡ None → more ≡ Some l) → (if b then Some first else more) ≡ Some l
found_by true first rest more l none found = absurd (none-some first (sym none))
found_by false first rest more l none found = found none

found_behind : (loans : List (ℕ × Loan)) (handle : ℕ) (l : Loan) → loan_of loans handle ≡ None → loan_of (loans ++ (handle, l) ∷ []) handle ≡ Some l
found_behind [] handle l none = ap (λ (same : Bool). if same then Some l else None) (eq-eqb handle handle refl)
found_behind (pair ∷ pairs) handle l none =
    found_by (pair.0 == handle) pair.1 (loan_of pairs handle) (loan_of (pairs ++ (handle, l) ∷ []) handle) l none (found_behind pairs handle l)

-- It isn't looked at for any other handle.
not_looked_at : (handle h : ℕ) (l : Loan) → h ≢ handle → (((handle == h) ≡ true) × (handle ≡ h)) ⊎ (((handle == h) ≡ false) × (handle ≢ h)) → (if handle == h then Some l else None) ≡ None
not_looked_at handle h l other (inl same) = absurd (other (sym same.1))
not_looked_at handle h l other (inr differs) = ap (λ (same : Bool). if same then Some l else None) differs.0

others_behind : (loans : List (ℕ × Loan)) (handle h : ℕ) (l : Loan) → h ≢ handle → loan_of (loans ++ (handle, l) ∷ []) h ≡ loan_of loans h
others_behind [] handle h l other = not_looked_at handle h l other (eqb_tells handle h)
others_behind (pair ∷ pairs) handle h l other = ap (λ (rest : Option Loan). if pair.0 == h then Some pair.1 else rest) (others_behind pairs handle h l other)

pub are_lent : (handle : ℕ) (bytes : List ℕ) (command : LocalCommand) → loan_of command.loans handle ≡ None → AreLent handle bytes command
are_lent handle bytes command none = record {
  named = found_behind command.loans handle (loan.Other (snap_of_bytes bytes)) none;
  others = λ h other. others_behind command.loans handle h (loan.Other (snap_of_bytes bytes)) other;
}

-- A session that got an answer has taken the bytes.
pub has_taken : (before after : Asker) (command lent : LocalCommand) (handle : ℕ) (bytes : List ℕ) → loan_of command.loans handle ≡ None → lent ≡ with_bytes handle bytes command → IsAnswered before lent after → HasTaken before command handle bytes after
has_taken before after command lent handle bytes none is answered = record {
  answered = subst (λ (c : LocalCommand). IsAnswered before c after) is answered;
  lent = are_lent handle bytes command none;
}

-- What follows holds if the call succeeds.
pub on_ok : {A E : Type 0} {P Q : Type 0} (r : Result A E) → (P → Q) → OnOk r P → OnOk r Q
on_ok (Ok x) f p = f p
on_ok (Err e) f p = p

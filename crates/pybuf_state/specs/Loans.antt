-- The handles that an exporter knows by its loans, and what is lent to the effect of a command.
use Rattle.std.specs.Prelude.{ℕ, Bool, true, false, List, [], ◌∷◌, length, map, Option, Some, None, nat_lt}
use Rattle.std.specs.List.{flat_map, list_all}
use Rattle.pybuf_value.specs.declared.snaps.Snap.{Snap}
use Rattle.pybuf_value.specs.declared.values.Value.{Value}
use Rattle.pybuf_command.specs.declared.kinds.Subject.{Subject}
use Rattle.pybuf_command.specs.declared.kinds.Subject.TheVariants as subject
use Rattle.pybuf_command.specs.declared.loans.Loan.{Loan}
use Rattle.pybuf_command.specs.declared.loans.Loan.TheVariants as loan
use Rattle.pybuf_command.specs.Loans.{loan_of}
use Rattle.pybuf_command.specs.Handles.{handle_of_value}
use Rattle.pybuf_state.specs.Exporter.{Exporter}
use Rattle.pybuf_state.specs.Snaps.{snap_of_subject}
use Rattle.pybuf_value.specs.declared.values.Scalar.{Scalar}
use Rattle.pybuf_value.specs.declared.values.PySlice.{PySlice}
use Rattle.pybuf_value.specs.declared.values.Value.{Value}
use Rattle.pybuf_command.specs.Handles.{handles_in_scalar, handles_in_slice, handle_of_value}

-- ---- which handles are known

-- whether the exporter has what a loan names
abbrev pub is_named : Exporter → Option Loan → Bool
is_named e (Some loan.Own) = true
is_named e (Some (loan.View k)) = nat_lt k (length e.views)
is_named e (Some (loan.Iter k)) = nat_lt k (length e.iterators)
is_named e (Some (loan.Other snap)) = true
is_named e (Some loan.Missing) = false
is_named e None = false

-- the same for each of these handles, by what each is lent as
abbrev pub are_named : Exporter → (ℕ → Option Loan) → List ℕ → Bool
are_named e named handles = list_all (λ h. is_named e (named h)) handles

-- a handle that nothing is lent for was never given
abbrev pub given_loan : Option Loan → Option Loan
given_loan (Some loan.Missing) = None
given_loan l = l

-- what each handle is lent as; the first pair with the handle counts
abbrev pub names_of : List (ℕ × Loan) → ℕ → Option Loan
names_of loans h = given_loan (loan_of loans h)

-- the same for each of these handles, by the loans
abbrev pub are_known : Exporter → List (ℕ × Loan) → List ℕ → Bool
are_known e loans handles = are_named e (names_of loans) handles

-- ---- what is lent

-- what another exporter lends for a subject, as the subject stands
abbrev pub loan_of_snap : Option Snap → Loan
loan_of_snap (Some snap) = loan.Other snap
loan_of_snap None = loan.Missing

-- What is lent for a handle: what it names, as that stands before the command, and which subject of the exporter it is.
-- There is no subject if it belongs to another exporter.
pub record Lent : Type 0 where
  pub handle : ℕ
  pub subject : Option Subject
  pub snap : Snap

abbrev pub lent_as : ℕ → Option Subject → Option Snap → List Lent
lent_as h s (Some snap) = record { handle = h; subject = s; snap = snap } ∷ []
lent_as h s None = []

-- which subject of the exporter a loan names
abbrev pub subject_in : Option Loan → Option Subject
subject_in (Some loan.Own) = Some subject.Own
subject_in (Some (loan.View k)) = Some (subject.View k)
subject_in (Some (loan.Iter k)) = Some (subject.Iter k)
subject_in _ = None

-- what a loan names, as it stands; nothing if its bytes aren't read
abbrev pub snap_in : Exporter → Option Loan → Option Snap
snap_in e (Some loan.Own) = snap_of_subject e subject.Own
snap_in e (Some (loan.View k)) = snap_of_subject e (subject.View k)
snap_in e (Some (loan.Iter k)) = snap_of_subject e (subject.Iter k)
snap_in e (Some (loan.Other snap)) = Some snap
snap_in e _ = None

-- what is lent for the handles whose bytes a command reads, in order, by what each is lent as
abbrev pub lents_by : Exporter → (ℕ → Option Loan) → List ℕ → List Lent
lents_by e named handles = flat_map (λ h. lent_as h (subject_in (named h)) (snap_in e (named h))) handles

-- what is lent for the handle that a value is, if it is one
abbrev pub lents_of_value : Exporter → (ℕ → Option Loan) → Value → List Lent
lents_of_value e named v = lents_by e named (handle_of_value v)

-- what is lent for such handles by loans
abbrev pub lent_for_each : Exporter → List (ℕ × Loan) → List ℕ → List Lent
lent_for_each e loans handles = lents_by e (names_of loans) handles

-- the handles, each with what it names
abbrev pub snaps_of : List Lent → List (ℕ × Snap)
snaps_of lents = map (λ l. (l.handle, l.snap)) lents

-- ---- the handles of parts of a command, by what each is lent as

-- each handle among these values is known
abbrev pub are_scalars_named : Exporter → (ℕ → Option Loan) → List Scalar → Bool
are_scalars_named e named scalars = list_all (λ scalar. are_named e named (handles_in_scalar scalar)) scalars

-- each handle in these slices is known
abbrev pub are_slices_named : Exporter → (ℕ → Option Loan) → List PySlice → Bool
are_slices_named e named slices = list_all (λ slice. are_named e named (handles_in_slice slice)) slices

-- the handle that a value is, with what it names
abbrev pub snaps_of_value : Exporter → (ℕ → Option Loan) → Value → List (ℕ × Snap)
snaps_of_value e named value = snaps_of (lents_by e named (handle_of_value value))

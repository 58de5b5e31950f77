-- What a handle names. It is the exporter that a command works on or something of it, something of another exporter, or
-- nothing.
use Rattle.std.specs.Prelude.{◌≡◌, true, Option, Some, None}
use Rattle.std.specs.Option.{option_map}
use Rattle.pybuf_value.specs.declared.snaps.Snap.{Snap}
use Rattle.pybuf_command.specs.declared.kinds.Subject.{Subject}
use Rattle.pybuf_command.specs.declared.kinds.Subject.TheVariants as subject
use Rattle.pybuf_command.specs.declared.loans.Loan.{Loan}
use Rattle.pybuf_command.specs.declared.loans.Loan.TheVariants as loan
use Rattle.pybuf_memoryview.specs.Fits.{fits_snap}
use Rattle.pybuf_state.specs.declared.names.Other.{Other}
use Rattle.pybuf_state.specs.declared.names.Other.TheVariants as other
use Rattle.pybuf_state.specs.declared.names.Meaning.{Meaning}
use Rattle.pybuf_state.specs.declared.names.Meaning.TheVariants as meaning
use Rattle.pybuf_state.specs.Answers.{exporter_of, IsWhole}
use Rattle.pybuf_state.specs.Snaps.{snap_of_subject}

-- the loan by which an exporter names a subject of its own
abbrev pub loan_of_own : Subject → Loan
loan_of_own subject.Own = loan.Own
loan_of_own (subject.View k) = loan.View k
loan_of_own (subject.Iter k) = loan.Iter k

-- something of another exporter, as it stands
abbrev pub snap_of_other : Other → Option Snap
snap_of_other (other.Snap snap) = Some snap.now
snap_of_other (other.Lies lender s) = snap_of_subject (exporter_of lender.now) s

abbrev pub meant_other : Other → Option Loan
meant_other o = option_map loan.Other (snap_of_other o)

-- what a handle is lent as, if this is what it means
abbrev pub meant : Meaning → Option Loan
meant (meaning.Own s) = Some (loan_of_own s)
meant (meaning.Other o) = meant_other o
meant meaning.Nothing = None

-- a snap that is lent fits, and an exporter that is lent is sound
abbrev pub IsSoundOther : Other → Type 0
IsSoundOther (other.Snap snap) = fits_snap snap.now ≡ true
IsSoundOther (other.Lies lender s) = IsWhole lender.now

abbrev pub IsSoundMeaning : Meaning → Type 0
IsSoundMeaning (meaning.Other o) = IsSoundOther o
IsSoundMeaning _ = Unit {0}

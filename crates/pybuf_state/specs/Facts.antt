-- Facts about the definitions of this crate, with their proofs, for the proofs of the crates above.
use Rattle.std.proofs.Common.{◌≡◌, ℕ, zero, suc, ◌+◌, true, not, cond, List, [], ◌∷◌, ap, arith, slice_get, refl, false}
use Rattle.std.specs.Prelude.{count_by, Option, Some, None, Ok, Err, Result}
use Rattle.std.proofs.lemmas.List.Sums.{sum_by-cons}
use Rattle.std.specs.Option.{ok_or, option_map}
use Rattle.pybuf_value.specs.Refusing.{◌>>=◌, unless, done_bind}
use Rattle.pybuf_value.specs.declared.faults.Fault.{Fault}
use Rattle.pybuf_value.specs.declared.snaps.Snap.{Snap}
use Rattle.pybuf_command.specs.declared.loans.Loan.{Loan}
use Rattle.pybuf_command.specs.declared.kinds.Subject.{Subject}
use Rattle.pybuf_command.specs.declared.commands.LocalReply.{LocalReply}
use Rattle.pybuf_command.specs.declared.kinds.ExporterKind.{ExporterKind}
use Rattle.pybuf_command.specs.Kinds.{holds_readonly, of_byte_array}
use Rattle.pybuf_desc.specs.Facts.{layout_passes}
use Rattle.pybuf_state.specs.Exporter.{View, is_exported, Exporter, Iterator, exports_of}
use Rattle.pybuf_state.specs.Live.{is_unreleased, layout_in}
use Rattle.pybuf_state.specs.Loans.{given_loan, snap_in}
use Rattle.pybuf_state.specs.Resizing.{has_exports}
use Rattle.pybuf_state.specs.Names.{loan_of_own}
use Rattle.pybuf_state.specs.Snaps.{snap_of_subject}
use Rattle.pybuf_state.specs.Keeps.{IsCarriedOut, IsSafe, is_answer}
use Rattle.pybuf_state.specs.Laws.{ReadingKeeps}
use Rattle.pybuf_value.specs.declared.faults.Fault.TheVariants as fault
use Rattle.pybuf_command.specs.declared.loans.Loan.TheVariants as loan
use Rattle.pybuf_command.specs.declared.kinds.Subject.TheVariants as subject
use Rattle.pybuf_command.specs.declared.kinds.ExporterKind.TheVariants as kind

pub none_live : (views : List View) (k : ℕ) → count_by is_exported views ≡ 0 → is_unreleased (slice_get views k) ≡ true → ⊥
none_live [] k none live = cc
none_live (v ∷ views) zero none live =
    let sum : count_by is_exported (v ∷ views) ≡ cond (not v.released) 1 0 + count_by is_exported views = sum_by-cons (λ (w : View). cond (is_exported w) 1 0) v views in
    omega (arith, sum, ap {B = ℕ} (λ b. cond b 1 0) live)
none_live (v ∷ views) (suc k) none live =
    let sum : count_by is_exported (v ∷ views) ≡ cond (not v.released) 1 0 + count_by is_exported views = sum_by-cons (λ (w : View). cond (is_exported w) 1 0) v views in
    none_live views k (omega (arith, sum)) live

pub live_of : (o : Option View) → is_unreleased o ≡ true → (ok_or o fault.UnknownName >>= λ v. unless v.released fault.Value >>= λ u. Ok v.layout) ≡ Ok (layout_in o)
live_of None live = absurd (cc)
live_of (Some v) live = layout_passes v.released v.layout live

pub given_snap : (e : Exporter) (l : Option Loan) → snap_in e (given_loan l) ≡ snap_in e l
given_snap e None = refl
given_snap e (Some loan.Own) = refl
given_snap e (Some (loan.View k)) = refl
given_snap e (Some (loan.Iter k)) = refl
given_snap e (Some (loan.Other snap)) = refl
given_snap e (Some loan.Missing) = refl

pub view_given : (o : Option View) (v : View) → ok_or o fault.UnknownName ≡ Ok v → o ≡ Some v
view_given None v found = cc
view_given (Some w) v found = cc

pub no_view_given : (o : Option View) (f : Fault) → ok_or o fault.UnknownName ≡ Err f → o ≡ None
no_view_given None f refused = refl
no_view_given (Some w) f refused = absurd (cc)

pub iterator_given : (o : Option Iterator) (it : Iterator) → ok_or o fault.UnknownName ≡ Ok it → o ≡ Some it
iterator_given None it found = cc
iterator_given (Some other) it found = cc

pub no_exports : (e : Exporter) → has_exports e ≡ false → exports_of e ≡ 0
no_exports e none = grind (arith, none)

pub own_snap : (e : Exporter) (s : Subject) → snap_in e (Some (loan_of_own s)) ≡ snap_of_subject e s
own_snap e subject.Own = refl
own_snap e (subject.View k) = refl
own_snap e (subject.Iter k) = refl

pub other_snap : (e : Exporter) (o : Option Snap) → snap_in e (option_map loan.Other o) ≡ o
other_snap e None = refl
other_snap e (Some snap) = refl

pub safe_bind : {A : Type 0} (e : Exporter) (r : Result A Fault) (f : A → Result (Exporter × LocalReply) Fault) → ((a : A) → r ≡ Ok a → IsSafe e (f a)) → IsSafe e (r >>= f)
safe_bind e r f after = done_bind (IsCarriedOut e) r f after

pub reading_is_carried_out : ReadingKeeps → (e : Exporter) (r : LocalReply) → is_answer e r ≡ true → IsCarriedOut e (e, r)
reading_is_carried_out reading e r answers = record { keeps = λ sound. reading e sound; answers = answers }

-- the effect of a bytearray is that of an exporter that may be written
pub safe_in_kind : (e : Exporter) (k : ExporterKind) (r : Result (Exporter × LocalReply) Fault) → e.kind ≡ k → (holds_readonly e.kind ≡ false → IsSafe e r) → IsSafe e (of_byte_array k r)
safe_in_kind e kind.ByteArray r is safe = safe (ap holds_readonly is)
safe_in_kind e kind.Bytes r is safe = tt
safe_in_kind e (kind.Vector readonly) r is safe = tt

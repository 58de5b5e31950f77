-- Lemmas for the code of a comparison.
use Rattle.std.proofs.Common.{◌≡◌, ℕ, List, Bool, false, sym, refl, subst}
use Rattle.std.specs.Prelude.{Option, Some, None}
use Rattle.std.specs.Option.{option_map}
use Rattle.pybuf_value.specs.declared.values.CompareOp.{CompareOp}
use Rattle.pybuf_value.specs.declared.values.Value.{Value}
use Rattle.pybuf_value.specs.declared.values.Value.TheVariants as value
use Rattle.pybuf_value.specs.declared.values.Scalar.TheVariants as scalar
use Rattle.pybuf_value.specs.declared.snaps.Snap.{Snap}
use Rattle.pybuf_value.specs.declared.snaps.SnapKind.{SnapKind}
use Rattle.pybuf_value.specs.Lent.{kind_of_named}
use Rattle.pybuf_command.specs.declared.kinds.ExporterKind.{ExporterKind}
use Rattle.pybuf_command.specs.declared.loans.Loan.TheVariants as loan
use Rattle.pybuf_state.specs.Exporter.{Exporter}
use Rattle.pybuf_state.specs.Loans.{lent_as, snap_in, subject_in}
use Rattle.pybuf_verbs_compare.specs.Compare.{has_no_order, has_no_order_with, equals_snap, equals_other}

-- Whether there is an order depends only on the kind of what a handle names.
abbrev pub no_order_with_kind : ExporterKind → CompareOp → Option SnapKind → Bool
no_order_with_kind k op (Some kind) = has_no_order k op kind
no_order_with_kind k op None = false

pub no_order_by_kind : (k : ExporterKind) (op : CompareOp) (o : Option Snap) → has_no_order_with k op o ≡ no_order_with_kind k op (kind_of_named o)
no_order_by_kind k op None = refl
no_order_by_kind k op (Some snap) = refl

-- What another exporter has is no view of this one.
pub equals_other_snap : (e : Exporter) (number h : ℕ) (left : Snap) (o : Option Snap) →
    equals_other number left (value.One (scalar.Handle h)) (lent_as h (subject_in (option_map loan.Other o)) (snap_in e (option_map loan.Other o))) ≡ equals_snap left o
equals_other_snap e number h left None = refl
equals_other_snap e number h left (Some snap) = refl

-- What holds of a bytes value holds of a value that is equal to it.
pub by_bytes : (P : Value → Type 0) (v : Value) (bytes content : List ℕ) → v ≡ value.One (scalar.Bytes bytes) → content ≡ bytes → P (value.One (scalar.Bytes content)) → P v
by_bytes P v bytes content is same holds =
    subst P (sym is) (subst (λ (bs : List ℕ). P (value.One (scalar.Bytes bs))) same holds)

use Rattle.std.proofs.Common.{rules, ◌≡◌, ℕ, List, subst}
use Rattle.std.specs.Prelude.{Some, IfOk}
use Rattle.pybuf_value.specs.declared.values.Value.{Value}
use Rattle.pybuf_value.specs.declared.values.Value.TheVariants as value
use Rattle.pybuf_value.specs.declared.values.Scalar.TheVariants as scalar
use Rattle.pybuf_command.specs.Handles.{handle_of_value}
use Rattle.pybuf_command.specs.declared.kinds.ExporterKind.TheVariants as kind
use Rattle.pybuf_state.specs.Answers.{exporter_of}
use Rattle.pybuf_state.specs.Exporter.{new_exporter}
use Rattle.pybuf_state.specs.Loans.{lents_by}
use Rattle.pybuf_state.specs.Snaps.{snap_of_exporter, snap_of_view}
use Rattle.pybuf_verbs_compare.specs.Compare.{equals_other, equals_snap}
use Rattle.pybuf_verbs_compare.proofs.Comparing.{by_bytes}
use Rattle.pybuf_verbs_compare.proofs.compare.equals_value.Goals as goal

pub returns-in-One-Bytes : goal.returns-in-One-Bytes
returns-in-One-Bytes g c =
    let e = exporter_of c.args.parts.now in
    let named = g.N.Names.named c.args.names.now in
    let is : c.args.other.now ≡ value.One (scalar.Bytes c.in-One-Bytes.bytes) = search rules in
    by_bytes (λ (v : Value). IfOk c.equals_bytes.result (λ equal. equal ≡ equals_other c.args.number (snap_of_view c.args.parts.now.bytes.items c.args.view.now) v (lents_by e named (handle_of_value v))))
    c.args.other.now c.in-One-Bytes.bytes c.as_slice-in-One-Bytes.result.now is c.as_slice-in-One-Bytes.ensures
    (subst (λ (bytes : List ℕ). IfOk c.equals_bytes.result (λ equal. equal ≡ equals_snap (snap_of_view bytes c.args.view.now) (Some (snap_of_exporter (new_exporter kind.Bytes c.as_slice-in-One-Bytes.result.now)))))
    c.as_slice.ensures (c.equals_bytes.ensures kind.Bytes))

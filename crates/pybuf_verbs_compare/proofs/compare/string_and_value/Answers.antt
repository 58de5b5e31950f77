use Rattle.std.proofs.Common.{rules, ◌≡◌}
use Rattle.pybuf_value.specs.declared.values.Value.{Value}
use Rattle.pybuf_value.specs.declared.values.Value.TheVariants as value
use Rattle.pybuf_value.specs.declared.values.Scalar.TheVariants as scalar
use Rattle.pybuf_command.specs.Handles.{handle_of_value}
use Rattle.pybuf_state.specs.Answers.{exporter_of, Reads}
use Rattle.pybuf_state.specs.Loans.{lents_by}
use Rattle.pybuf_verbs_compare.specs.Compare.{compare_string, other_in}
use Rattle.pybuf_verbs_compare.proofs.Comparing.{by_bytes}
use Rattle.pybuf_verbs_compare.proofs.compare.string_and_value.Goals as goal

pub returns-in-One-Bytes : goal.returns-in-One-Bytes
returns-in-One-Bytes g c =
    let e = exporter_of c.args.parts.now in
    let named = g.N.Names.named c.args.names.now in
    let is : c.args.other.now ≡ value.One (scalar.Bytes c.in-One-Bytes.bytes) = search rules in
    by_bytes (λ (v : Value). Reads (compare_string e c.args.op (other_in v (lents_by e named (handle_of_value v)))) e c.string_and_bytes.result)
    c.args.other.now c.in-One-Bytes.bytes c.as_slice.result.now is c.as_slice.ensures c.string_and_bytes.ensures

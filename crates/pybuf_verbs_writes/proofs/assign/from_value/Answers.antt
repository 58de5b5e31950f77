use Rattle.std.proofs.Common.{rules, ◌≡◌}
use Rattle.pybuf_value.specs.declared.values.Value.TheVariants as value
use Rattle.pybuf_value.specs.declared.values.Scalar.TheVariants as scalar
use Rattle.pybuf_command.specs.Handles.{handle_of_value}
use Rattle.pybuf_command.specs.declared.kinds.ExporterKind.TheVariants as kind
use Rattle.pybuf_state.specs.Answers.{exporter_of}
use Rattle.pybuf_state.specs.Loans.{lents_by}
use Rattle.pybuf_state.specs.Names.{meant}
use Rattle.pybuf_verbs_writes.proofs.Assigning.{answers_by_bytes, answers_by_handle}
use Rattle.pybuf_verbs_writes.proofs.assign.from_value.Goals as goal

pub returns-in-One-Bytes-clause-answer : goal.returns-in-One-Bytes-clause-answer
returns-in-One-Bytes-clause-answer g c =
    let e = exporter_of c.args.parts.now in
    let named = g.N.Names.named c.args.names.now in
    let is : c.args.value.now ≡ value.One (scalar.Bytes c.in-One-Bytes.bytes) = search rules in
    answers_by_bytes e c.args.target.now c.args.value.now c.in-One-Bytes.bytes c.as_slice.result.now (lents_by e named (handle_of_value c.args.value.now)) c.from_bytes.result (exporter_of c.from_bytes.new.parts)
    is c.as_slice.ensures (c.from_bytes.ensures.answer kind.Bytes)

pub returns-in-One-Handle-clause-answer : goal.returns-in-One-Handle-clause-answer
returns-in-One-Handle-clause-answer g c =
    let e = exporter_of c.args.parts.now in
    let named = g.N.Names.named c.args.names.now in
    let is : c.args.value.now ≡ value.One (scalar.Handle c.in-One-Handle.handle) = search rules in
    answers_by_handle e c.args.target.now c.args.value.now c.in-One-Handle.handle named (meant c.meaning.result) c.from_meaning.result (exporter_of c.from_meaning.new.parts)
    is c.meaning.ensures.meant c.from_meaning.ensures.answer

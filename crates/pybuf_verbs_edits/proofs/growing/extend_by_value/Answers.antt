use Rattle.std.proofs.Common.{rules, ◌≡◌}
use Rattle.pybuf_value.specs.declared.values.Value.TheVariants as value
use Rattle.pybuf_value.specs.declared.values.Scalar.TheVariants as scalar
use Rattle.pybuf_state.specs.Answers.{exporter_of}
use Rattle.pybuf_state.specs.Names.{meant}
use Rattle.pybuf_verbs_edits.specs.Growing.{extended_or_doubled}
use Rattle.pybuf_verbs_edits.specs.LentBytes.{extended_as}
use Rattle.pybuf_verbs_edits.proofs.Lending.{by_handle, handle_extends}
use Rattle.pybuf_verbs_edits.proofs.growing.extend_by_value.Goals as goal

pub returns-in-One-Handle-clause-answer : goal.returns-in-One-Handle-clause-answer
returns-in-One-Handle-clause-answer g c =
    let e = exporter_of c.args.parts.now in
    let h = c.in-One-Handle.handle in
    let is : c.args.value.now ≡ value.One (scalar.Handle h) = search rules in
    by_handle (extended_or_doubled e) (extended_as e) e c.args.value.now h (g.N.Names.named c.args.names.now) (meant c.meaning.result) c.extend_by_meaning.result (exporter_of c.extend_by_meaning.new.parts)
    (handle_extends e h) is c.meaning.ensures.meant c.extend_by_meaning.ensures.answer

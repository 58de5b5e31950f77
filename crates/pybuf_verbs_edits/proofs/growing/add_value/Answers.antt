use Rattle.std.proofs.Common.{rules, ◌≡◌}
use Rattle.pybuf_value.specs.declared.values.Value.TheVariants as value
use Rattle.pybuf_value.specs.declared.values.Scalar.TheVariants as scalar
use Rattle.pybuf_state.specs.Answers.{exporter_of}
use Rattle.pybuf_state.specs.Names.{meant}
use Rattle.pybuf_verbs_edits.specs.Growing.{added}
use Rattle.pybuf_verbs_edits.specs.LentBytes.{added_as}
use Rattle.pybuf_verbs_edits.proofs.Lending.{by_handle, handle_adds}
use Rattle.pybuf_verbs_edits.proofs.growing.add_value.Goals as goal

pub returns-in-One-Handle-clause-answer : goal.returns-in-One-Handle-clause-answer
returns-in-One-Handle-clause-answer g c =
    let e = exporter_of c.args.parts.now in
    let h = c.in-One-Handle.handle in
    let is : c.args.value.now ≡ value.One (scalar.Handle h) = search rules in
    by_handle (added e) (added_as e) e c.args.value.now h (g.N.Names.named c.args.names.now) (meant c.meaning.result) c.add_meaning.result (exporter_of c.add_meaning.new.parts)
    (handle_adds e h) is c.meaning.ensures.meant c.add_meaning.ensures.answer

use Rattle.std.proofs.Common.{rules, ◌≡◌}
use Rattle.pybuf_value.specs.declared.values.Value.TheVariants as value
use Rattle.pybuf_value.specs.declared.values.Scalar.TheVariants as scalar
use Rattle.pybuf_state.specs.Answers.{exporter_of}
use Rattle.pybuf_state.specs.Loans.{snap_in}
use Rattle.pybuf_state.specs.Names.{meant}
use Rattle.pybuf_verbs_edits.specs.LentBytes.{assigned_by}
use Rattle.pybuf_verbs_edits.specs.Replacing.{assigned_from}
use Rattle.pybuf_verbs_edits.proofs.Lending.{by_handle, handle_assigns}
use Rattle.pybuf_verbs_edits.proofs.replacing.put_value.Goals as goal

pub returns-in-One-Handle-clause-answer : goal.returns-in-One-Handle-clause-answer
returns-in-One-Handle-clause-answer g c =
    let e = exporter_of c.args.parts.now in
    let h = c.in-One-Handle.handle in
    let is : c.args.value.now ≡ value.One (scalar.Handle h) = search rules in
    by_handle (assigned_from e c.args.slice) (λ o. assigned_by e c.args.slice (snap_in e o)) e c.args.value.now h (g.N.Names.named c.args.names.now) (meant c.meaning.result) c.put_meaning.result (exporter_of c.put_meaning.new.parts)
    (handle_assigns e c.args.slice h) is c.meaning.ensures.meant c.put_meaning.ensures.answer

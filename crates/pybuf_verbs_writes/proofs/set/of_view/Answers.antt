use Rattle.std.proofs.Common.{ap, sym, subst, ◌∙◌}
use Rattle.pybuf_memoryview.specs.Fits.{is_byte_format}
use Rattle.pybuf_command.specs.Handles.{handle_of_value}
use Rattle.pybuf_state.specs.Loans.{lents_by}
use Rattle.pybuf_state.specs.Answers.{exporter_of, Answers}
use Rattle.pybuf_verbs_writes.proofs.Single.{set_as_byte}
use Rattle.pybuf_verbs_writes.proofs.set.of_view.Goals as goal

pub returns-then-is_byte_format-clause-answer : goal.returns-then-is_byte_format-clause-answer
returns-then-is_byte_format-clause-answer g c =
    let e = exporter_of c.args.parts.now in
    let lents = lents_by e (g.N.Names.named c.args.names.now) (handle_of_value c.args.value.now) in
    let is = ap is_byte_format (sym c.format_text.ensures ∙ sym c.as_slice.ensures) ∙ sym c.is_byte_format.ensures ∙ c.if-is_byte_format.true in
    subst (λ r. Answers r e c.write_byte.result (exporter_of c.write_byte.new.parts))
    (sym (set_as_byte c.byte_items_are_their_byte.ensures e c.args.view c.args.key.now c.args.value.now lents c.in_ok-layout.layout.now c.in_ok-layout.place c.in_ok-layout.ensures.exact is))
    c.write_byte.ensures.answer

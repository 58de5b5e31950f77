use Rattle.std.proofs.Common.{◌≡◌, true, refl, rules}
use Rattle.pybuf_desc.specs.Contiguous.{is_contiguous_layout}
use Rattle.pybuf_state.specs.Answers.{exporter_of}
use Rattle.pybuf_verbs_edits.proofs.Lending.{view_adds}
use Rattle.pybuf_verbs_edits.proofs.growing.add_view.Goals as goal

pub returns-clause-answer : goal.returns-clause-answer
returns-clause-answer c =
    let in_a_row : is_contiguous_layout c.in_ok-layout.layout.now ≡ true = search rules in
    (view_adds (exporter_of c.args.parts.now) c.args.view c.in_ok-layout.layout.now c.in_ok-layout.ensures.exact in_a_row, refl)

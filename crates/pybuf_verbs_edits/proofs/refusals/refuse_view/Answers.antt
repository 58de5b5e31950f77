use Rattle.std.proofs.Common.{refl}
use Rattle.pybuf_state.specs.Answers.{exporter_of}
use Rattle.pybuf_verbs_edits.proofs.Lending.{view_extends, view_initializes}
use Rattle.pybuf_verbs_edits.proofs.refusals.refuse_view.Goals as goal

pub returns-clause-extended : goal.returns-clause-extended
returns-clause-extended c = (view_extends (exporter_of c.args.parts.now) c.args.view c.in_ok-live_layout.field-0.now c.in_ok-live_layout.ensures.exact, refl)

pub returns-clause-initialized : goal.returns-clause-initialized
returns-clause-initialized c = (view_initializes (exporter_of c.args.parts.now) c.args.view c.in_ok-live_layout.field-0.now c.in_ok-live_layout.ensures.exact, refl)

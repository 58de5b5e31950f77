use Rattle.std.proofs.Common.{◌≡◌, false, true, sym, subst}
use Rattle.pybuf_desc.specs.Places.{Stands}
use Rattle.pybuf_state.specs.Answers.{exporter_of}
use Rattle.pybuf_exporter.proofs.Described.{described_valid, described_stands, not_given}
use Rattle.pybuf_exporter.proofs.exporter.ExporterState.view_desc.Goals as goal

pub returns-in-Ok-clause-stands : goal.returns-in-Ok-clause-stands
returns-in-Ok-clause-stands c =
    rw (sym c.self.view_is) (described_stands (exporter_of c.self.inside.parts) c.args.view c.in-Ok.view.now c.placed.result.0.now c.placed.result.1 c.in-Ok.ensures (subst (Stands c.placed.result.0.now c.placed.result.1) c.layout.ensures c.placed.ensures.stands))

pub returns-in-Ok-clause-valid : goal.returns-in-Ok-clause-valid
returns-in-Ok-clause-valid c =
    rw (sym c.self.view_is) (described_valid c.valid_where_items_lie_inside.ensures (exporter_of c.self.inside.parts) c.args.view c.in-Ok.view.now c.placed.result.0.now c.placed.result.1 c.self.invariant.sound c.in-Ok.ensures c.placed.ensures.placed (subst (Stands c.placed.result.0.now c.placed.result.1) c.layout.ensures c.placed.ensures.stands))

pub returns-in-Err-clause-given : goal.returns-in-Err-clause-given
returns-in-Err-clause-given c = ((λ wrong. absurd (let no : false ≡ true = wrong in cc)), rw (sym c.self.view_is) (λ below. not_given (exporter_of c.self.inside.parts) c.args.view c.in-Err.field-0 c.in-Err.ensures below))

use Rattle.std.proofs.Common.{ℕ}
use Rattle.pybuf_desc.specs.Descriptor.{Descriptor}
use Rattle.pybuf_desc.specs.Layouts.{Layout}
use Rattle.pybuf_desc.specs.Places.{Stands}
use Rattle.pybuf_desc.specs.Valid.{IsValid}
use Rattle.pybuf_nd.specs.Selections.{selection_of}
use Rattle.pybuf_nd_lines.proofs.Cuts.{done_so, placed_so, made_is, made_inside}
use Rattle.pybuf_nd_lines.proofs.cutting.cut.Goals as goal

pub of_descriptor-requires : goal.of_descriptor-requires
of_descriptor-requires c =
    placed_so c.placed-start.result.0.now c.in-Done.cut.0 c.placed-start.result.1 c.in-Done.cut.1 c.placed-start.ensures.placed
    (done_so (λ (made : Descriptor × ℕ). (room : ℕ) → IsValid c.placed-start.result.0.now c.placed-start.result.1 room → IsValid made.0 made.1 room) c.in_ok-cut.field-0 c.in-Done.cut c.in-Done.is c.in_ok-cut.ensures.valid)

pub returns-in-Done-clause-cut : goal.returns-in-Done-clause-cut
returns-in-Done-clause-cut c =
    made_is c.descriptors_stand_for_one_view.ensures c.in-Done.cut.0 c.in-Done.cut.1 (selection_of c.args.view.now c.args.slices.now) c.of_descriptor.result
    (done_so (λ (made : Descriptor × ℕ). (view : Layout) → Stands c.placed-start.result.0.now c.placed-start.result.1 view → Stands made.0 made.1 (selection_of view c.args.slices.now)) c.in_ok-cut.field-0 c.in-Done.cut c.in-Done.is c.in_ok-cut.ensures.stands c.args.view.now c.placed-start.ensures.stands)
    c.of_descriptor.ensures

pub returns-in-Done-clause-inside : goal.returns-in-Done-clause-inside
returns-in-Done-clause-inside c =
    made_inside c.valid_where_items_lie_inside.ensures c.placed-start.result.0.now c.in-Done.cut.0 c.placed-start.result.1 c.in-Done.cut.1 c.args.view.now
    (selection_of c.args.view.now c.args.slices.now) c.of_descriptor.result c.placed-start.ensures.placed c.placed-start.ensures.stands
    (done_so (λ (made : Descriptor × ℕ). (view : Layout) → Stands c.placed-start.result.0.now c.placed-start.result.1 view → Stands made.0 made.1 (selection_of view c.args.slices.now)) c.in_ok-cut.field-0 c.in-Done.cut c.in-Done.is c.in_ok-cut.ensures.stands c.args.view.now c.placed-start.ensures.stands)
    (done_so (λ (made : Descriptor × ℕ). (room : ℕ) → IsValid c.placed-start.result.0.now c.placed-start.result.1 room → IsValid made.0 made.1 room) c.in_ok-cut.field-0 c.in-Done.cut c.in-Done.is c.in_ok-cut.ensures.valid)
    (returns-in-Done-clause-cut c)

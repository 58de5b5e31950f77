use Rattle.std.proofs.Common.{ℕ}
use Rattle.pybuf_desc.specs.Descriptor.{Descriptor}
use Rattle.pybuf_desc.specs.Layouts.{Layout}
use Rattle.pybuf_desc.specs.Places.{Stands}
use Rattle.pybuf_desc.specs.Valid.{IsValid}
use Rattle.pybuf_nd.specs.Axes.{transposition_of}
use Rattle.pybuf_nd_lines.proofs.Cuts.{done_so, placed_so, made_is, made_inside}
use Rattle.pybuf_nd_lines.proofs.cutting.turn.Goals as goal

pub of_descriptor-requires : goal.of_descriptor-requires
of_descriptor-requires c =
    placed_so c.placed-start.result.0.now c.in-Done.made c.placed-start.result.1 c.placed-start.result.1 c.placed-start.ensures.placed
    (done_so (λ (made : Descriptor). (start room : ℕ) → IsValid c.placed-start.result.0.now start room → IsValid made start room) c.in_ok-made.field-0 c.in-Done.made c.in-Done.is c.in_ok-made.ensures.valid c.placed-start.result.1)

pub returns-in-Done-clause-turned : goal.returns-in-Done-clause-turned
returns-in-Done-clause-turned c =
    made_is c.descriptors_stand_for_one_view.ensures c.in-Done.made c.placed-start.result.1 (transposition_of c.args.view.now) c.of_descriptor.result
    (done_so (λ (made : Descriptor). (start : ℕ) (view : Layout) → Stands c.placed-start.result.0.now start view → Stands made start (transposition_of view)) c.in_ok-made.field-0 c.in-Done.made c.in-Done.is c.in_ok-made.ensures.stands c.placed-start.result.1 c.args.view.now c.placed-start.ensures.stands)
    c.of_descriptor.ensures

pub returns-in-Done-clause-inside : goal.returns-in-Done-clause-inside
returns-in-Done-clause-inside c =
    made_inside c.valid_where_items_lie_inside.ensures c.placed-start.result.0.now c.in-Done.made c.placed-start.result.1 c.placed-start.result.1 c.args.view.now
    (transposition_of c.args.view.now) c.of_descriptor.result c.placed-start.ensures.placed c.placed-start.ensures.stands
    (done_so (λ (made : Descriptor). (start : ℕ) (view : Layout) → Stands c.placed-start.result.0.now start view → Stands made start (transposition_of view)) c.in_ok-made.field-0 c.in-Done.made c.in-Done.is c.in_ok-made.ensures.stands c.placed-start.result.1 c.args.view.now c.placed-start.ensures.stands)
    (done_so (λ (made : Descriptor). (start room : ℕ) → IsValid c.placed-start.result.0.now start room → IsValid made start room) c.in_ok-made.field-0 c.in-Done.made c.in-Done.is c.in_ok-made.ensures.valid c.placed-start.result.1)
    (returns-in-Done-clause-turned c)

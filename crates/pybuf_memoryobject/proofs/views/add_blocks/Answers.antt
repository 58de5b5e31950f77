use Rattle.std.proofs.Common.{◌≡◌, sym, subst, ap, ◌∙◌}
use Rattle.std.specs.Prelude.{IfOk}
use Rattle.pybuf_command.specs.declared.commands.LocalReply.TheVariants as reply
use Rattle.pybuf_desc.specs.Layouts.{Layout}
use Rattle.pybuf_desc.specs.Slices.{slice_of}
use Rattle.pybuf_state.specs.Exporter.{with_view}
use Rattle.pybuf_state.specs.Laws.{IsSoundLayout}
use Rattle.pybuf_state.specs.Live.{layout_of}
use Rattle.pybuf_memoryobject.proofs.Blocks.{blocks_are, some_dimension, slice_sound}
use Rattle.pybuf_memoryobject.proofs.views.add_blocks.Goals as goal

pub sliced-requires-clause-some_dimension : goal.sliced-requires-clause-some_dimension
sliced-requires-clause-some_dimension c =
    some_dimension c.live_descriptor-start.result.0.now c.args.range (layout_of c.args.state.now.exporter c.args.view).shape c.live_descriptor-start.ensures.stands.shape c.requires.range

pub add_view-requires-clause-placed : goal.add_view-requires-clause-placed
add_view-requires-clause-placed c =
    let placed = c.live_descriptor-start.ensures.placed in
    record { room = placed.room; room_fits = placed.room_fits; valid = c.in_ok-sliced.ensures.valid placed.room placed.valid }

pub add_view-requires-clause-sound : goal.add_view-requires-clause-sound
add_view-requires-clause-sound c =
    let e = c.args.state.now.exporter in
    let view = layout_of e c.args.view in
    let one = ap (slice_of view) (sym c.slice_of_range-slice.ensures) ∙ c.descriptors_stand_for_one_view.ensures c.in_ok-sliced.sliced c.in_ok-sliced.first (slice_of view c.slice_of_range-slice.result) (c.in_ok-sliced.ensures.stands view c.live_descriptor-start.ensures.stands) in
    subst (IsSoundLayout e) one
    (slice_sound c.slices_stay_inside.ensures c.slices_have_their_shape.ensures e view c.args.range c.requires.range c.live_descriptor-start.ensures.sound)

pub returns-clause-ok : goal.returns-clause-ok
returns-clause-ok c =
    let e = c.args.state.now.exporter in
    let view = layout_of e c.args.view in
    let d = c.live_descriptor-start in
    let same = sym (blocks_are c.clamping_changes_no_index.ensures d.result.0.now d.result.1 view c.args.range d.ensures.placed d.ensures.stands c.requires.range)
    ∙ ap (slice_of view) (sym c.slice_of_range-slice.ensures)
    ∙ c.descriptors_stand_for_one_view.ensures c.in_ok-sliced.sliced c.in_ok-sliced.first (slice_of view c.slice_of_range-slice.result) (c.in_ok-sliced.ensures.stands view d.ensures.stands) in
    subst (λ (l : Layout). IfOk c.add_view.result (λ made. with_view e l ≡ (c.add_view.new.self.exporter, reply.View made))) (sym same) c.add_view.ensures.ok

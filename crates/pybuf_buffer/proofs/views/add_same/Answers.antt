use Rattle.std.proofs.Common.{◌≡◌, sym, subst, ap, ◌∙◌}
use Rattle.pybuf_desc.specs.Descriptor.{Descriptor}
use Rattle.std.specs.Prelude.{IfOk}
use Rattle.pybuf_command.specs.declared.commands.LocalReply.TheVariants as reply
use Rattle.pybuf_desc.specs.Layouts.{Layout}
use Rattle.pybuf_desc.specs.Places.{layout_at}
use Rattle.pybuf_state.specs.Exporter.{with_view}
use Rattle.pybuf_state.specs.Laws.{IsSoundLayout}
use Rattle.pybuf_state.specs.Live.{layout_of}
use Rattle.pybuf_buffer.proofs.Live.{is_live_layout}
use Rattle.pybuf_buffer.proofs.views.add_same.Goals as goal

pub add_view-requires-clause-sound : goal.add_view-requires-clause-sound
add_view-requires-clause-sound c =
    let e = c.args.state.now.exporter in
    let k = c.args.view in
    let same = c.descriptors_stand_for_one_view.ensures c.described-start.result.0.now c.described-start.result.1 (layout_of e k) c.described-start.ensures.stands
    ∙ ap (λ (d : Descriptor). layout_at d c.described-start.result.1) (sym c.in_ok-twin.ensures) in
    subst (IsSoundLayout e) same (c.live_layouts_are_sound.ensures e k (layout_of e k) c.exports-exports.ensures.sound (is_live_layout e k c.requires))

pub returns-clause-ok : goal.returns-clause-ok
returns-clause-ok c =
    let e = c.args.state.now.exporter in
    let k = c.args.view in
    let same = c.descriptors_stand_for_one_view.ensures c.described-start.result.0.now c.described-start.result.1 (layout_of e k) c.described-start.ensures.stands
    ∙ ap (λ (d : Descriptor). layout_at d c.described-start.result.1) (sym c.in_ok-twin.ensures) in
    subst (λ (l : Layout). IfOk c.add_view.result (λ made. with_view e l ≡ (c.add_view.new.self.exporter, reply.View made))) (sym same) c.add_view.ensures.ok

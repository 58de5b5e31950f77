use Rattle.std.proofs.Common.{◌≡◌, ap, length, sym, subst}
use Rattle.std.specs.Prelude.{IfOk}
use Rattle.pybuf_command.specs.declared.commands.LocalReply.TheVariants as reply
use Rattle.pybuf_desc.specs.Layouts.{Layout}
use Rattle.pybuf_state.specs.Exporter.{with_view}
use Rattle.pybuf_memoryobject.proofs.Lent.{lent_layout, lent_sound}
use Rattle.pybuf_memoryobject.proofs.views.add_all.Goals as goal

pub add_view-requires-clause-sound : goal.add_view-requires-clause-sound
add_view-requires-clause-sound c =
    lent_sound c.descriptors_stand_for_one_view.ensures c.whole_layouts_are_sound.ensures c.args.state.now.exporter c.in_ok-descriptor.descriptor (length c.bytes-len.result.now) c.args.readonly (ap length c.bytes-len.ensures) c.requires c.in_ok-descriptor.ensures.stands

pub returns-clause-ok : goal.returns-clause-ok
returns-clause-ok c =
    let same = lent_layout c.descriptors_stand_for_one_view.ensures c.in_ok-descriptor.descriptor c.args.state.now.exporter.bytes (length c.bytes-len.result.now) c.args.readonly (ap length c.bytes-len.ensures) c.in_ok-descriptor.ensures.stands in
    subst (λ (l : Layout). IfOk c.add_view.result (λ made. with_view c.args.state.now.exporter l ≡ (c.add_view.new.self.exporter, reply.View made))) (sym same) c.add_view.ensures.ok

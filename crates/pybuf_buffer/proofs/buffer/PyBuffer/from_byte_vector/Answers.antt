use Rattle.std.proofs.Common.{rules}
use Rattle.pybuf_buffer.proofs.Adding.{vector_sound, vector_made}
use Rattle.pybuf_buffer.proofs.buffer.PyBuffer.from_byte_vector.Goals as goal

pub add_view-requires-clause-sound : goal.add_view-requires-clause-sound
add_view-requires-clause-sound c =
    vector_sound c.descriptors_stand_for_one_view.ensures c.whole_layouts_are_sound.ensures c.new-state.result.exporter c.in_ok-descriptor.descriptor c.args.bytes.items c.len.result (search rules) (search rules) c.in_ok-descriptor.ensures.stands

pub returns-clause-state : goal.returns-clause-state
returns-clause-state c =
    vector_made c.descriptors_stand_for_one_view.ensures c.new-state.result.exporter c.add_view.new.self.exporter c.in_ok-descriptor.descriptor c.args.bytes.items c.len.result c.in_ok-view.view (search rules) (search rules) c.in_ok-descriptor.ensures.stands c.in_ok-view.ensures.ok

use Rattle.std.proofs.Common.{rules}
use Rattle.pybuf_buffer.proofs.Adding.{buffer_sound}
use Rattle.pybuf_buffer.proofs.buffer.PyBuffer.new.Goals as goal

pub add_view-requires-clause-sound : goal.add_view-requires-clause-sound
add_view-requires-clause-sound c =
    buffer_sound c.placed_descriptors_stand.ensures c.described_views_have_their_shape.ensures c.valid_where_items_lie_inside.ensures c.args.state.now.exporter c.args.desc c.args.start (search rules) (search rules) (search rules)

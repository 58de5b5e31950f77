use Rattle.pybuf_state.specs.Live.{layout_of}
use Rattle.pybuf_buffer.proofs.Live.{is_live_layout}
use Rattle.pybuf_buffer.proofs.views.live_descriptor.Goals as goal

pub returns-clause-sound : goal.returns-clause-sound
returns-clause-sound c =
    c.live_layouts_are_sound.ensures c.args.state.now.exporter c.args.view (layout_of c.args.state.now.exporter c.args.view) c.exports-exports.ensures.sound (is_live_layout c.args.state.now.exporter c.args.view c.requires)

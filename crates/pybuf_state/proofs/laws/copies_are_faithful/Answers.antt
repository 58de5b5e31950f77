use Rattle.pybuf_state.proofs.Copying.{faithful}
use Rattle.pybuf_state.proofs.laws.copies_are_faithful.Goals as goal

pub returns : goal.returns
returns c = faithful c.live_layouts_are_sound.ensures c.new_views_are_sound.ensures c.copies_have_their_bytes.ensures

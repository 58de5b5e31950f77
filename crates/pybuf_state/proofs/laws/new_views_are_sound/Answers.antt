use Rattle.pybuf_state.proofs.Keeping.{one_more_sound}
use Rattle.pybuf_state.proofs.laws.new_views_are_sound.Goals as goal

pub returns : goal.returns
returns c = one_more_sound

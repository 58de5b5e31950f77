use Rattle.pybuf_state.proofs.Spacing.{live_apart}
use Rattle.pybuf_state.proofs.laws.live_layouts_lie_apart.Goals as goal

pub returns : goal.returns
returns c = live_apart

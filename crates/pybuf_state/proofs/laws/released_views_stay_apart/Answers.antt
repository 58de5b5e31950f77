use Rattle.pybuf_state.proofs.Spacing.{one_released}
use Rattle.pybuf_state.proofs.laws.released_views_stay_apart.Goals as goal

pub returns : goal.returns
returns c = one_released

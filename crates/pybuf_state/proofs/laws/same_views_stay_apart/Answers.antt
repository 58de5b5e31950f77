use Rattle.pybuf_state.proofs.Spacing.{same_views}
use Rattle.pybuf_state.proofs.laws.same_views_stay_apart.Goals as goal

pub returns : goal.returns
returns c = same_views

use Rattle.pybuf_state.proofs.Spacing.{one_more}
use Rattle.pybuf_state.proofs.laws.new_views_stay_apart.Goals as goal

pub returns : goal.returns
returns c = one_more

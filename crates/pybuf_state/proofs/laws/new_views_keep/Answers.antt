use Rattle.pybuf_state.proofs.Keeping.{adding}
use Rattle.pybuf_state.proofs.laws.new_views_keep.Goals as goal

pub returns : goal.returns
returns c = adding

use Rattle.pybuf_world.proofs.Naming.{released_after_runs}
use Rattle.pybuf_world.proofs.laws.released_handles_stay.Goals as goal

pub returns : goal.returns
returns c = released_after_runs c.runs_name_their_views.ensures.views

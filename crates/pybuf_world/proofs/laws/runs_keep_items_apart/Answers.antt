use Rattle.pybuf_world.proofs.Apart.{runs_apart}
use Rattle.pybuf_world.proofs.laws.runs_keep_items_apart.Goals as goal

pub returns : goal.returns
returns c = runs_apart c.runs_stay_sound.ensures c.live_layouts_lie_apart.ensures

use Rattle.pybuf_world.proofs.Shown.{shown_are_one_line}
use Rattle.pybuf_world.proofs.laws.world_shown_texts_are_one_line.Goals as goal

pub returns : goal.returns
returns c = shown_are_one_line c.shown_texts_are_one_line.ensures

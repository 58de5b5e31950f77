use Rattle.pybuf_verbs_writes.proofs.ByValue.{by_value}
use Rattle.pybuf_verbs_writes.proofs.laws.assignments_are_by_value.Goals as goal

pub returns : goal.returns
returns c = by_value c.live_layouts_are_sound.ensures c.slices_stay_inside.ensures c.slices_have_their_shape.ensures

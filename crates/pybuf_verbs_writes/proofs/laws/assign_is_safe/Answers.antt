use Rattle.pybuf_verbs_writes.proofs.AssignSafe.{assign_safe}
use Rattle.pybuf_verbs_writes.proofs.laws.assign_is_safe.Goals as goal

pub returns : goal.returns
returns c = assign_safe c.writing_keeps.ensures c.live_layouts_are_sound.ensures c.slices_stay_inside.ensures

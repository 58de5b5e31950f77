use Rattle.pybuf_exporter.proofs.Assigning.{steps_assign}
use Rattle.pybuf_exporter.proofs.laws.steps_assign_by_value.Goals as goal

pub returns : goal.returns
returns c = steps_assign c.assignments_are_by_value.ensures c.assign_is_safe.ensures c.subjects_fit.ensures c.live_layouts_are_sound.ensures c.snaps_hold_the_items.ensures

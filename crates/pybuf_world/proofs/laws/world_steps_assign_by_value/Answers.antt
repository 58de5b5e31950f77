use Rattle.pybuf_world.proofs.Assigning.{worlds_assign}
use Rattle.pybuf_world.proofs.laws.world_steps_assign_by_value.Goals as goal

pub returns : goal.returns
returns c =
    worlds_assign c.steps_assign_by_value.ensures c.snaps_hold_the_items.ensures c.loans_of_worlds_fit.ensures c.live_layouts_lie_apart.ensures c.slices_lie_apart.ensures

use Rattle.pybuf_world.proofs.LentBytes.{lent_kept}
use Rattle.pybuf_world.proofs.world.World.lent_mut.Goals as goal

pub invariant_of-self-lent : goal.invariant_of-self-lent
invariant_of-self-lent c =
    let place = c.place_to_write-exporter.result in
    λ w. lent_kept c.self.inside.tables place.0 place.1 c.nth_mut.result.now.exporter w c.self.invariant c.nth_mut.ensures.value

use Rattle.pybuf_world.proofs.Hashing.{equal_hash}
use Rattle.pybuf_world.proofs.laws.world_equal_views_hash_alike.Goals as goal

pub returns : goal.returns
returns c = equal_hash c.subjects_fit.ensures c.fitting_snaps_have_all_items.ensures c.equal_byte_views_hold_the_same_bytes.ensures c.order_of_bytes_is_total.ensures

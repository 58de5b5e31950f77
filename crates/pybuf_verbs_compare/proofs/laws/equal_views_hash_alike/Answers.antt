use Rattle.pybuf_verbs_compare.proofs.Hashing.{hashed_alike}
use Rattle.pybuf_verbs_compare.proofs.laws.equal_views_hash_alike.Goals as goal

pub returns : goal.returns
returns c = hashed_alike c.live_layouts_are_sound.ensures c.contents_are_whole.ensures c.equal_byte_views_hold_the_same_bytes.ensures

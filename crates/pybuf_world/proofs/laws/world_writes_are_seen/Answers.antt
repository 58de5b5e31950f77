use Rattle.pybuf_world.proofs.Sharing.{worlds_seen}
use Rattle.pybuf_world.proofs.laws.world_writes_are_seen.Goals as goal

pub returns : goal.returns
returns c = worlds_seen c.writes_are_seen.ensures c.live_layouts_are_sound.ensures c.keys_name_items.ensures

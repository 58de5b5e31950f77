use Rattle.pybuf_verbs_writes.proofs.Safe.{set_safe}
use Rattle.pybuf_verbs_writes.proofs.laws.set_is_safe.Goals as goal

pub returns : goal.returns
returns c = set_safe c.writing_keeps.ensures c.live_layouts_are_sound.ensures c.packing_fills_the_format.ensures c.keys_name_items.ensures

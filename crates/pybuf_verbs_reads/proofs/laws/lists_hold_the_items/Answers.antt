use Rattle.pybuf_verbs_reads.proofs.Listed.{lists_hold}
use Rattle.pybuf_verbs_reads.proofs.laws.lists_hold_the_items.Goals as goal

pub returns : goal.returns
returns c = lists_hold c.live_layouts_are_sound.ensures c.keys_name_items.ensures

use Rattle.pybuf_exporter.proofs.Assigning.{snaps_hold}
use Rattle.pybuf_exporter.proofs.laws.snaps_hold_the_items.Goals as goal

pub returns : goal.returns
returns c = snaps_hold c.live_layouts_are_sound.ensures c.contents_are_whole.ensures c.contents_hold_the_items.ensures

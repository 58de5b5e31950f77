use Rattle.pybuf_verbs_writes.proofs.Seen.{written_is_seen}
use Rattle.pybuf_verbs_writes.proofs.laws.writes_are_seen.Goals as goal

pub returns : goal.returns
returns c = written_is_seen c.live_layouts_are_sound.ensures c.packing_fills_the_format.ensures c.reads_what_was_written.ensures

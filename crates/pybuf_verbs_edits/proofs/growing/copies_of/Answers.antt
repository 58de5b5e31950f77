use Rattle.std.proofs.Common.{◌∙◌}
use Rattle.pybuf_verbs_edits.proofs.Repeating.{once_more}
use Rattle.pybuf_verbs_edits.proofs.growing.copies_of.Goals as goal

pub loop-time-preserved : goal.loop-time-preserved
loop-time-preserved c = c.in_ok-extend_from_slice.ensures.items ∙ once_more c.loop-time._time c.args.bytes.now c.loop-time.list.items c.loop-time.invariant

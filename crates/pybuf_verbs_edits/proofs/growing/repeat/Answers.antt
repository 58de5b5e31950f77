use Rattle.pybuf_verbs_edits.proofs.Still.{not_empty, other_times}
use Rattle.pybuf_verbs_edits.proofs.growing.repeat.Goals as goal

pub returns-clause-still_room : goal.returns-clause-still_room
returns-clause-still_room c = λ other. other_times _ _ _ c.args.times c.repeat_bytes.result (not_empty _ _ c.is_empty.ensures c.if-is_empty.false) c.repeat_bytes.ensures.long other

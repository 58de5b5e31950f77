use Rattle.pybuf_verbs_writes.proofs.ByValue.{contents_hold}
use Rattle.pybuf_verbs_writes.proofs.laws.contents_hold_the_items.Goals as goal

pub returns : goal.returns
returns c = contents_hold

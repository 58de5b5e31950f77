use Rattle.pybuf_verbs_edits.proofs.Asking.{all_ask}
use Rattle.pybuf_verbs_edits.proofs.laws.edits_ask_before_they_resize.Goals as goal

pub returns : goal.returns
returns c = all_ask

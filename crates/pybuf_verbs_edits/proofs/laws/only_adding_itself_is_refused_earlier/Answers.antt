use Rattle.pybuf_verbs_edits.proofs.OwnBuffer.{only_itself}
use Rattle.pybuf_verbs_edits.proofs.laws.only_adding_itself_is_refused_earlier.Goals as goal

pub returns : goal.returns
returns c = only_itself

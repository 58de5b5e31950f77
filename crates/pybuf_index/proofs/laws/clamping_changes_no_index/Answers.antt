use Rattle.pybuf_index.proofs.LawLemmas.{same_when_clamped}
use Rattle.pybuf_index.proofs.laws.clamping_changes_no_index.Goals as goal

pub returns : goal.returns
returns c = same_when_clamped

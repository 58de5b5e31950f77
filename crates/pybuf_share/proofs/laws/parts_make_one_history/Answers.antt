use Rattle.pybuf_share.proofs.OneAfterOther.{one_part}
use Rattle.pybuf_share.proofs.laws.parts_make_one_history.Goals as goal

pub returns : goal.returns
returns c = one_part

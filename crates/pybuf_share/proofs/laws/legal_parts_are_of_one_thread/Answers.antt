use Rattle.pybuf_share.proofs.OneAfterOther.{of_one_thread}
use Rattle.pybuf_share.proofs.laws.legal_parts_are_of_one_thread.Goals as goal

pub returns : goal.returns
returns c = of_one_thread

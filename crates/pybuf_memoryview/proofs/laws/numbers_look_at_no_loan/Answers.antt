use Rattle.pybuf_memoryview.proofs.Unread.{packs_the_same}
use Rattle.pybuf_memoryview.proofs.laws.numbers_look_at_no_loan.Goals as goal

pub returns : goal.returns
returns c = packs_the_same

use Rattle.pybuf_desc.proofs.Tails.{tails_are_greatest}
use Rattle.pybuf_desc.proofs.laws.tails_are_greatest.Goals as goal

pub returns : goal.returns
returns c = tails_are_greatest

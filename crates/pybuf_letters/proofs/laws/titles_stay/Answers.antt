use Rattle.pybuf_letters.proofs.CaseLaws.{title-stays}
use Rattle.pybuf_letters.proofs.laws.titles_stay.Goals as goal

pub returns : goal.returns
returns c = title-stays

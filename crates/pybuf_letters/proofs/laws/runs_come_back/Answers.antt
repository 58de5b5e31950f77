use Rattle.pybuf_letters.proofs.RunLaws.{runs-of_joined}
use Rattle.pybuf_letters.proofs.laws.runs_come_back.Goals as goal

pub returns : goal.returns
returns c = runs-of_joined

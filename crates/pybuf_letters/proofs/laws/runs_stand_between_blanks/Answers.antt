use Rattle.pybuf_letters.proofs.GapLaws.{are_runs_of}
use Rattle.pybuf_letters.proofs.laws.runs_stand_between_blanks.Goals as goal

pub returns : goal.returns
returns c = are_runs_of

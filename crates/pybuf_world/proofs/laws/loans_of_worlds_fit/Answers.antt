use Rattle.pybuf_world.proofs.Assigning.{loans_fit}
use Rattle.pybuf_world.proofs.laws.loans_of_worlds_fit.Goals as goal

pub returns : goal.returns
returns c = loans_fit c.subjects_fit.ensures

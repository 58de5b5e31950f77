use Rattle.pybuf_state.proofs.Fitting.{subject_fits}
use Rattle.pybuf_state.proofs.laws.subjects_fit.Goals as goal

pub returns : goal.returns
returns c = subject_fits c.contents_are_whole.ensures

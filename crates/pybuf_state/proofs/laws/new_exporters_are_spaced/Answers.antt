use Rattle.pybuf_state.proofs.Spacing.{new_spaced}
use Rattle.pybuf_state.proofs.laws.new_exporters_are_spaced.Goals as goal

pub returns : goal.returns
returns c = new_spaced

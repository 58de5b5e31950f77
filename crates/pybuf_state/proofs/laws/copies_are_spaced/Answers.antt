use Rattle.pybuf_state.proofs.Spacing.{copies_spaced}
use Rattle.pybuf_state.proofs.laws.copies_are_spaced.Goals as goal

pub returns : goal.returns
returns c = copies_spaced c.row_major_layouts_lie_apart.ensures

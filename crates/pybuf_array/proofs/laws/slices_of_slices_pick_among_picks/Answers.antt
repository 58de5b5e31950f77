use Rattle.pybuf_array.proofs.Slicing.{slices_of_slices}
use Rattle.pybuf_array.proofs.laws.slices_of_slices_pick_among_picks.Goals as goal

pub returns : goal.returns
returns c = slices_of_slices c.indices_of_a_slice.ensures

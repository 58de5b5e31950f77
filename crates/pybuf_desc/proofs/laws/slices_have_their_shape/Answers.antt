use Rattle.pybuf_desc.proofs.SliceLayouts.{slices_shape}
use Rattle.pybuf_desc.proofs.laws.slices_have_their_shape.Goals as goal

pub returns : goal.returns
returns c = λ view n shape parts first whole moves. slices_shape view n shape parts first whole (c.indices_of_a_slice.ensures n parts.start parts.stop parts.step moves).inside

use Rattle.pybuf_desc.specs.Slices.{first_entry}
use Rattle.pybuf_desc.proofs.ItemsApart.{slices_apart}
use Rattle.pybuf_desc.proofs.laws.slices_lie_apart.Goals as goal

pub returns : goal.returns
returns c = λ view parts moves. slices_apart view parts (c.indices_of_a_slice.ensures (first_entry view.shape) parts.start parts.stop parts.step moves).ordered

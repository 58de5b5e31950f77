use Rattle.pybuf_memoryview.proofs.Gathered.{item_bytes_inside}
use Rattle.pybuf_memoryview.proofs.laws.item_bytes_lie_inside.Goals as goal

pub returns : goal.returns
returns c = item_bytes_inside

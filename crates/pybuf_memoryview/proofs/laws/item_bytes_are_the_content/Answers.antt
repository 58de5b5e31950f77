use Rattle.pybuf_memoryview.proofs.Gathered.{item_bytes_read}
use Rattle.pybuf_memoryview.proofs.laws.item_bytes_are_the_content.Goals as goal

pub returns : goal.returns
returns c = item_bytes_read

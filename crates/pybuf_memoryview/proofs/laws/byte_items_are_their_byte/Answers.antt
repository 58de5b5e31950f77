use Rattle.pybuf_memoryview.proofs.SingleBytes.{writes_byte}
use Rattle.pybuf_memoryview.proofs.laws.byte_items_are_their_byte.Goals as goal

pub returns : goal.returns
returns c = writes_byte

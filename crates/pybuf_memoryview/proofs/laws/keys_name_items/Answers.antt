use Rattle.pybuf_memoryview.proofs.Named.{named_below}
use Rattle.pybuf_memoryview.proofs.laws.keys_name_items.Goals as goal

pub returns : goal.returns
returns c = named_below

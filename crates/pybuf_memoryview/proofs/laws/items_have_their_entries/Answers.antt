use Rattle.pybuf_memoryview.proofs.Numbered.{own_entries}
use Rattle.pybuf_memoryview.proofs.laws.items_have_their_entries.Goals as goal

pub returns : goal.returns
returns c = own_entries

use Rattle.pybuf_desc.proofs.PackedItems.{copied_items}
use Rattle.pybuf_desc.proofs.laws.copies_have_their_bytes.Goals as goal

pub returns : goal.returns
returns c = copied_items

use Rattle.pybuf_equality.proofs.Cut.{layout_items}
use Rattle.pybuf_equality.proofs.laws.layouts_have_their_items.Goals as goal

pub returns : goal.returns
returns c = layout_items

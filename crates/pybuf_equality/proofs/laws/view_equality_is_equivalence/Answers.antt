use Rattle.pybuf_equality.proofs.Same.{equivalence}
use Rattle.pybuf_equality.proofs.laws.view_equality_is_equivalence.Goals as goal

pub returns : goal.returns
returns c = equivalence c.item_equality_is_equivalence.ensures

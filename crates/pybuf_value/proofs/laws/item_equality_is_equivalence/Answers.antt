use Rattle.pybuf_value.specs.Equality.{same_item}
use Rattle.pybuf_value.specs.Laws.{counted_item}
use Rattle.pybuf_value.proofs.EqualityLemmas.{items_decided, equality_from}
use Rattle.pybuf_value.proofs.laws.item_equality_is_equivalence.Goals as goal

pub returns : goal.returns
returns c = equality_from counted_item same_item items_decided

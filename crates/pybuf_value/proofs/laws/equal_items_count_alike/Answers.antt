use Rattle.pybuf_value.proofs.EqualityLemmas.{items_decided}
use Rattle.pybuf_value.proofs.laws.equal_items_count_alike.Goals as goal

pub returns : goal.returns
returns c = items_decided

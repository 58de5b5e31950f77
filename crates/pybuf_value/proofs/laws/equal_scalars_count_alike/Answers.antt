use Rattle.pybuf_value.proofs.EqualityLemmas.{scalars_decided}
use Rattle.pybuf_value.proofs.laws.equal_scalars_count_alike.Goals as goal

pub returns : goal.returns
returns c = scalars_decided

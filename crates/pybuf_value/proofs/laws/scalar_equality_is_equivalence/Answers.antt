use Rattle.pybuf_value.specs.Equality.{counted, same_scalar}
use Rattle.pybuf_value.proofs.EqualityLemmas.{scalars_decided, equality_from}
use Rattle.pybuf_value.proofs.laws.scalar_equality_is_equivalence.Goals as goal

pub returns : goal.returns
returns c = equality_from counted same_scalar scalars_decided

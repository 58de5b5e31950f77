use Rattle.pybuf_shaping.proofs.GroupLemmas.{from_right, from_left}
use Rattle.pybuf_shaping.proofs.laws.groups_are_counted.Goals as goal

pub returns : goal.returns
returns c = λ size bytes some many. record {
  right = from_right size bytes some many;
  left = from_left size bytes some many;
}
